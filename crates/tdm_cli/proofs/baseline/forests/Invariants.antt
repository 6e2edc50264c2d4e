use Rattle.tdm_cli.specs.Progress.{AreMade}
use Rattle.tdm_cli.proofs.baseline.forests.Given as goal

abbrev pub invariant-loop-root : goal.invariant-loop-root
invariant-loop-root l = AreMade l.graph l.marks.items l.root l.made.items
