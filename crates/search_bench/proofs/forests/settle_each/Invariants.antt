use Rattle.std.proofs.Common.{◌≡◌, length}
use Rattle.search_bench.proofs.forests.settle_each.Given as goal

abbrev pub invariant-loop-root : goal.invariant-loop-root
invariant-loop-root g l =
    (length l.search.labels ≡ length l.fn.search.labels) × (l.search.goals ≡ l.fn.search.goals)
