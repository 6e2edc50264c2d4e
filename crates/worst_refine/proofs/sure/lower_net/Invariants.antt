use Rattle.std.proofs.Common.{length}
use Rattle.worst_refine.specs.Spent.{IsSureStep}
use Rattle.worst_refine.proofs.sure.lower_net.Given as goal

abbrev pub invariant-loop-place : goal.invariant-loop-place
invariant-loop-place l = IsSureStep (length l.fn.spent) l.fn.solution l.solution l.spent
