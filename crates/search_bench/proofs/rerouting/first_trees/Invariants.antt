use Rattle.std.proofs.Common.{◌≡◌}
use Rattle.ripup_reroute.proofs.FirstTrees.{AreFirst}
use Rattle.search_bench.proofs.rerouting.first_trees.Given as goal

abbrev pub invariant-loop-n : goal.invariant-loop-n
invariant-loop-n l = record {
  first : AreFirst l.problem l.n l.trees;
  builder : l.builder.fpgas ≡ l.graph.fpgas;
}
