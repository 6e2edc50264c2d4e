use Rattle.std.proofs.Common.{not, count_by}
use Rattle.board_graph.specs.Graph.{board_of}
use Rattle.shortest_forest.proofs.ClimbLaws.{IsClimbing}
use Rattle.shortest_forest.proofs.baseline.climb.Given as goal

abbrev pub invariant-loop-marks : goal.invariant-loop-marks
invariant-loop-marks l = IsClimbing (board_of l.graph) l.forest l.from l.f l.fn.marks l.marks l.wires.items

abbrev pub decreases-loop-marks : goal.decreases-loop-marks
decreases-loop-marks l = count_by not l.marks
