use Rattle.std.proofs.Common.{◌≡◌, length}
use Rattle.search_bench.proofs.lengths.mixed_lengths.Given as goal

abbrev pub invariant-loop-e : goal.invariant-loop-e
invariant-loop-e l = length l.lengths.items ≡ l.e
