use Rattle.std.proofs.Common.{◌≡◌}
use Rattle.tdm_cli.specs.Progress.{IsProgress}
use Rattle.tdm_cli.proofs.baseline.baseline_trees.Given as goal

abbrev pub invariant-loop-n : goal.invariant-loop-n
invariant-loop-n l = IsProgress l.problem l.n l.progress.trees l.progress.used l.progress.missing.items
    × (l.builder.fpgas ≡ l.graph.fpgas)
