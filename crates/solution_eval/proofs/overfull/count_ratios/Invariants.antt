use Rattle.std.proofs.Common.{length, take}
use Rattle.solution_eval.specs.Counted.{CountsRatios}
use Rattle.solution_eval.proofs.overfull.count_ratios.Given as goal

abbrev pub invariant-loop-n : goal.invariant-loop-n
invariant-loop-n l = CountsRatios l.wanted (take l.n l.solution) (length l.problem.wires) l.counts.items
