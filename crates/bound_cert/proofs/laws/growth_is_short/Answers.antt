use Rattle.bound_cert.proofs.GrowthLaws.{growth-le_lengths}
use Rattle.bound_cert.proofs.OneGrowth.{one_growth}
use Rattle.bound_cert.proofs.SomeGrowth.{some_growth}
use Rattle.bound_cert.proofs.laws.growth_is_short.Goals as goal

pub returns-clause-short : goal.returns-clause-short
returns-clause-short c = growth-le_lengths

pub returns-clause-one : goal.returns-clause-one
returns-clause-one c = one_growth

pub returns-clause-some : goal.returns-clause-some
returns-clause-some c = some_growth
