use Rattle.std.proofs.Common.{◌<◌, ◌+◌, ◌-◌, length}
use Rattle.board_graph.specs.Graph.{board_of}
use Rattle.shortest_forest.proofs.WayLaws.{IsFollowing}
use Rattle.shortest_forest.proofs.way.way_back.Given as goal

abbrev pub invariant-loop-e : goal.invariant-loop-e
invariant-loop-e l = IsFollowing (board_of l.graph) l.search l.f l.at l.fn.wires.items l.wires.items
    × (l.at < l.graph.fpgas)

abbrev pub decreases-loop-e : goal.decreases-loop-e
decreases-loop-e l = l.graph.fpgas + length l.fn.wires.items - length l.wires.items
