use Rattle.tdm_cli.proofs.reading.CertTextTextReader.cut.Goals as goal

pub returns-clause-same : goal.returns-clause-same
returns-clause-same c = c.long_certificates_are_refused.ensures.same c.args.self.now.problem.now
