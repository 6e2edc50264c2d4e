use Rattle.std.proofs.Common.{◌≡◌, ◌^◌, ◌≤◌, length}
use Rattle.std.specs.Prelude.{All}
use Rattle.search_bench.proofs.rerouting.numbers_at.Given as goal

abbrev pub invariant-loop-n : goal.invariant-loop-n
invariant-loop-n l = (length l.numbers.items ≡ l.n) × All (λ s. s ≤ 2 ^ 30) l.numbers.items
