use Rattle.bound_cert.proofs.DualBound.{bound-le_value}
use Rattle.bound_cert.proofs.laws.dual_bound.Goals as goal

pub returns : goal.returns
returns c = bound-le_value
