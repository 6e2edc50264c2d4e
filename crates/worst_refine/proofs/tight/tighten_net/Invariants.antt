use Rattle.std.proofs.Common.{◌≡◌, length}
use Rattle.worst_refine.specs.Steps.{IsStep}
use Rattle.worst_refine.proofs.tight.tighten_net.Given as goal

abbrev pub invariant-loop-place : goal.invariant-loop-place
invariant-loop-place l =
    (length l.counts ≡ length l.fn.counts)
    × IsStep (length l.fn.counts) l.doubtful l.fn.solution l.solution l.counts l.n 0 l.place
