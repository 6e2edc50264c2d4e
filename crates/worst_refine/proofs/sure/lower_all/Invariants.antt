use Rattle.std.proofs.Common.{length}
use Rattle.worst_refine.specs.Spent.{IsSureStep}
use Rattle.worst_refine.proofs.sure.lower_all.Given as goal

abbrev pub invariant-loop-n : goal.invariant-loop-n
invariant-loop-n l = IsSureStep (length l.fn.spent) l.fn.solution l.solution l.spent
