use Rattle.std.proofs.Common.{length}
use Rattle.worst_refine.proofs.Doubts.{IsDoubted}
use Rattle.worst_refine.proofs.doubt.wires_in_doubt.Given as goal

abbrev pub invariant-loop-n : goal.invariant-loop-n
invariant-loop-n l = IsDoubted (length l.spent) l.solution l.n l.doubtful.items
