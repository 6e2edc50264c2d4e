use Rattle.std.proofs.Common.{◌≡◌, length}
use Rattle.worst_refine.proofs.Replacing.{IsPass}
use Rattle.worst_refine.proofs.tight.tighten_nets.Given as goal

abbrev pub invariant-loop-n : goal.invariant-loop-n
invariant-loop-n l = (length l.counts ≡ length l.fn.counts)
    × IsPass (length l.fn.counts) l.doubtful l.fn.solution l.solution l.counts l.n
