use Rattle.steiner_build.proofs.MarkLaws.{IsMarking}
use Rattle.steiner_build.proofs.joining.mark.Given as goal

abbrev pub invariant-loop-t : goal.invariant-loop-t
invariant-loop-t l = IsMarking l.terminals l.start l.t-index l.fn.search l.search l.others
