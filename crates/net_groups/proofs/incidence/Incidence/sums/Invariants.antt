use Rattle.net_groups.proofs.Gathered.{IsSummed}
use Rattle.net_groups.proofs.incidence.Incidence.sums.Given as goal

abbrev pub invariant-loop-n : goal.invariant-loop-n
invariant-loop-n l = IsSummed l.self l.solution l.n l.sums.items
