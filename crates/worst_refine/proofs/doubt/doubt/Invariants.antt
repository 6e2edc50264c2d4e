use Rattle.worst_refine.proofs.Doubts.{IsDoubting}
use Rattle.worst_refine.proofs.doubt.doubt.Given as goal

abbrev pub invariant-loop-wire_use : goal.invariant-loop-wire_use
invariant-loop-wire_use l = IsDoubting l.spent l.count l.uses l.wire_use-index l.initial.doubtful l.doubtful
