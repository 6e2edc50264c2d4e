use Rattle.std.proofs.Common.{◌≡◌}
use Rattle.search_bench.proofs.trees.grow_all.Given as goal

abbrev pub invariant-loop-n : goal.invariant-loop-n
invariant-loop-n g l = l.builder.fpgas ≡ l.graph.fpgas
