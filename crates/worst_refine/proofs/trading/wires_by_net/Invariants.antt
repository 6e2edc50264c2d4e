use Rattle.std.proofs.Common.{◌≡◌, take}
use Rattle.tdm_problem.specs.Trees.{trees_of}
use Rattle.worst_refine.proofs.trading.wires_by_net.Given as goal

abbrev pub invariant-loop-n : goal.invariant-loop-n
invariant-loop-n l = l.trees ≡ trees_of (take l.n l.solution)
