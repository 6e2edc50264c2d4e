use Rattle.board_graph.specs.Graph.{board_of}
use Rattle.shortest_forest.specs.Labels.{IsUnderWay, GoesOn, work_left}
use Rattle.shortest_forest.proofs.nearest.nearest_goal.Given as goal

abbrev pub invariant-loop-next : goal.invariant-loop-next
invariant-loop-next g l =
    IsUnderWay (board_of l.graph) (g.A.ArcLengths.arc_length l.arcs) (g.B.LowerBounds.lower_bound l.bounds)
    l.cap l.search
    × GoesOn l.fn.search l.search

abbrev pub decreases-loop-next : goal.decreases-loop-next
decreases-loop-next g l = work_left l.search
