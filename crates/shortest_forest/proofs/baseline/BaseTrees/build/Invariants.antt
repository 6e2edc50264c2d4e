use Rattle.board_graph.specs.Graph.{board_of}
use Rattle.shortest_forest.proofs.ClimbLaws.{IsGathered}
use Rattle.shortest_forest.proofs.baseline.BaseTrees.build.Given as goal

abbrev pub invariant-loop-t : goal.invariant-loop-t
invariant-loop-t l = IsGathered (board_of l.graph) l.forest l.terminals l.t-index l.self-inside.marks
    l.self-inside.wires.items
