use Rattle.net_groups.proofs.KeptSums.{IsWorstBefore}
use Rattle.net_groups.proofs.running.worst_of.Given as goal

abbrev pub invariant-loop-g : goal.invariant-loop-g
invariant-loop-g l = IsWorstBefore l.sums l.g l.worst
