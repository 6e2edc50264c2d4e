use Rattle.std.proofs.Common.{◌≡◌, take}
use Rattle.board_graph.proofs.graph.wires_of.Given as goal

abbrev pub invariant-loop-e : goal.invariant-loop-e
invariant-loop-e l = l.wires.items ≡ take l.e l.problem.wires
