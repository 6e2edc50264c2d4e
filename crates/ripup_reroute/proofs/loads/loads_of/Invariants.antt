use Rattle.ripup_reroute.proofs.Summing.{AreLoadsBefore}
use Rattle.ripup_reroute.proofs.loads.loads_of.Given as goal

abbrev pub invariant-loop-n : goal.invariant-loop-n
invariant-loop-n l = AreLoadsBefore l.problem l.trees l.numbers l.n l.loads.items
