use Rattle.bound_cert.proofs.HolderLaws.{IsCounted}
use Rattle.bound_cert.proofs.holders.count_members.Given as goal

abbrev pub invariant-loop-n : goal.invariant-loop-n
invariant-loop-n l = IsCounted l.group l.n-index l.fn.counts l.counts
