use Rattle.bound_cert.proofs.OneBound.{one_bound, some_bound, chosen_bound}
use Rattle.bound_cert.proofs.laws.bound_is_one.Goals as goal

pub returns-clause-one : goal.returns-clause-one
returns-clause-one c = one_bound

pub returns-clause-some : goal.returns-clause-some
returns-clause-some c = some_bound

pub returns-clause-chosen : goal.returns-clause-chosen
returns-clause-chosen c = chosen_bound
