use Rattle.bound_cert.proofs.CertSize.{length-cert_text, never_too_long}
use Rattle.bound_cert.proofs.laws_text.text_is_short.Goals as goal

pub returns-clause-bytes : goal.returns-clause-bytes
returns-clause-bytes c = length-cert_text

pub returns-clause-enough : goal.returns-clause-enough
returns-clause-enough c = never_too_long
