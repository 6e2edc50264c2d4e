use Rattle.bound_cert.proofs.Rooted.{IsRootedBelow}
use Rattle.bound_cert.proofs.share_maker.rooted_depths.Given as goal

abbrev pub invariant-loop-n : goal.invariant-loop-n
invariant-loop-n l = IsRootedBelow l.holders l.depths l.n l.total
