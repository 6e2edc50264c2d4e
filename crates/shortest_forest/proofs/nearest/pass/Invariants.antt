use Rattle.shortest_forest.proofs.Passing.{IsPassingOn}
use Rattle.shortest_forest.proofs.nearest.pass.Given as goal

abbrev pub invariant-loop-neighbour : goal.invariant-loop-neighbour
invariant-loop-neighbour g l =
    IsPassingOn l.graph (g.A.ArcLengths.arc_length l.arcs) (g.B.LowerBounds.lower_bound l.bounds) l.cap l.f
    l.distance l.neighbour-index l.fn.search l.search
