use Rattle.std.proofs.Common.{◌≡◌, false, length, replicate}
use Rattle.search_bench.proofs.forests.settle_often.Given as goal

abbrev pub invariant-loop : goal.invariant-loop
invariant-loop g l =
    (length l.search.labels ≡ l.graph.fpgas) × (l.search.goals ≡ replicate l.graph.fpgas false)
