use Rattle.bound_cert.proofs.LeastEven.{least_even-is_least}
use Rattle.bound_cert.proofs.laws.bound_is_least.Goals as goal

pub returns : goal.returns
returns c = least_even-is_least
