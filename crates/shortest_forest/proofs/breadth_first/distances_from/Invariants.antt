use Rattle.std.proofs.Common.{◌≡◌, ◌-◌, slice_index}
use Rattle.board_graph.specs.Graph.{board_of}
use Rattle.shortest_forest.specs.BreadthFirst.{IsSearch}
use Rattle.shortest_forest.proofs.breadth_first.distances_from.Given as goal

abbrev pub invariant-loop-head : goal.invariant-loop-head
invariant-loop-head l =
    IsSearch (board_of l.graph) l.distances.items l.queue.items l.head
    × (slice_index l.queue.items 0 ≡ l.source)

abbrev pub decreases-loop-head : goal.decreases-loop-head
decreases-loop-head l = l.graph.fpgas - l.head
