use Rattle.cert_checker.proofs.NetGrowthLaws.{AreMarkedNets}
use Rattle.cert_checker.proofs.net_growths.marked_nets.Given as goal

abbrev pub invariant-loop-n : goal.invariant-loop-n
invariant-loop-n l = AreMarkedNets l.weights l.n l.marks.items
