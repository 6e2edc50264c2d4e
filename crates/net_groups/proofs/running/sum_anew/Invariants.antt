use Rattle.net_groups.proofs.Gathered.{IsSummed}
use Rattle.net_groups.proofs.running.sum_anew.Given as goal

abbrev pub invariant-loop-n : goal.invariant-loop-n
invariant-loop-n l = IsSummed l.incidence l.solution l.n l.sums
