use Rattle.cert_checker.proofs.WeightedSums.{IsSummed}
use Rattle.cert_checker.proofs.bound.weighted_sum.Given as goal

abbrev pub invariant-loop-n : goal.invariant-loop-n
invariant-loop-n l = IsSummed l.factors l.spreads l.n l.total
