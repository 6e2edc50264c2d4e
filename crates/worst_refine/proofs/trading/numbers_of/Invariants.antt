use Rattle.std.proofs.Common.{◌≡◌, length}
use Rattle.worst_refine.proofs.trading.numbers_of.Given as goal

abbrev pub invariant-loop-n : goal.invariant-loop-n
invariant-loop-n l = length l.numbers.items ≡ l.n
