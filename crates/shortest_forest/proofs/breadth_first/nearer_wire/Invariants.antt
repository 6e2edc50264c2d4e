use Rattle.shortest_forest.proofs.PassLaws.{NoneNearer}
use Rattle.shortest_forest.proofs.breadth_first.nearer_wire.Given as goal

abbrev pub invariant-loop-neighbour : goal.invariant-loop-neighbour
invariant-loop-neighbour l = NoneNearer l.graph l.distances l.f l.distance l.neighbour-index
