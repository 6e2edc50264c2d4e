use Rattle.std.proofs.Common.{length}
use Rattle.worst_refine.specs.Spent.{IsSureStep}
use Rattle.worst_refine.proofs.sure.lower_groups.Given as goal

abbrev pub invariant-loop-g : goal.invariant-loop-g
invariant-loop-g l = IsSureStep (length l.fn.spent) l.fn.solution l.solution l.spent
