use Rattle.std.proofs.Common.{length}
use Rattle.bound_cert.proofs.HolderLaws.{IsHeld}
use Rattle.bound_cert.proofs.holders.holders.Given as goal

abbrev pub invariant-loop-g : goal.invariant-loop-g
invariant-loop-g l = IsHeld l.problem.groups (length l.problem.nets) l.g l.counts.items
