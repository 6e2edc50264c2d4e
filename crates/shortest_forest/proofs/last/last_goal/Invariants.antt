use Rattle.std.proofs.Common.{◌≤◌}
use Rattle.board_graph.specs.Graph.{board_of}
use Rattle.shortest_forest.specs.Labels.{IsUnderWay, GoesOn, work_left}
use Rattle.shortest_forest.specs.LastGoal.{IsLimited}
use Rattle.shortest_forest.proofs.last.last_goal.Given as goal

abbrev pub invariant-loop-next : goal.invariant-loop-next
invariant-loop-next g l =
    IsUnderWay (board_of l.graph) (g.A.ArcLengths.arc_length l.arcs) (λ _. 0) l.limit l.search
    × GoesOn l.fn.search l.search × (l.limit ≤ l.cap) × IsLimited l.cap l.limit l.search

abbrev pub decreases-loop-next : goal.decreases-loop-next
decreases-loop-next g l = work_left l.search
