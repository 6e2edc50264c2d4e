use Rattle.tdm_cli.proofs.TextLaws.{of-one}
use Rattle.tdm_cli.proofs.reading.CertTextTextReader.feed.Goals as goal

pub returns-clause-at : goal.returns-clause-at
returns-clause-at c = of-one c.feed.result _ c.args.self.now.problem.now c.feed.ensures.at
