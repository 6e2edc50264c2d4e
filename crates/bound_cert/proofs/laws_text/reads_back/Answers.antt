use Rattle.bound_cert.proofs.CertReadsBack.{text_reads_back}
use Rattle.bound_cert.proofs.laws_text.reads_back.Goals as goal

pub returns : goal.returns
returns c = text_reads_back
