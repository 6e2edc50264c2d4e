use Rattle.bound_cert.proofs.Accepted.{accepted-cert}
use Rattle.bound_cert.proofs.laws_text.a_text_says_a_certificate.Goals as goal

pub returns : goal.returns
returns c = accepted-cert
