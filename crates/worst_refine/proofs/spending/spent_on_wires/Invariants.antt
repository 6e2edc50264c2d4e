use Rattle.std.proofs.Common.{take}
use Rattle.worst_refine.specs.Spent.{IsSpent}
use Rattle.worst_refine.proofs.spending.spent_on_wires.Given as goal

abbrev pub invariant-loop-n : goal.invariant-loop-n
invariant-loop-n l = IsSpent (take l.n l.solution) l.wires l.spent.items
