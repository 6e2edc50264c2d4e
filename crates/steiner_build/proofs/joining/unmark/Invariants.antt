use Rattle.steiner_build.proofs.MarkLaws.{IsUnmarking}
use Rattle.steiner_build.proofs.joining.unmark.Given as goal

abbrev pub invariant-loop-t : goal.invariant-loop-t
invariant-loop-t l = IsUnmarking l.terminals l.t-index l.fn.search l.search
