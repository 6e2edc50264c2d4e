use Rattle.tdm_cli.specs.Progress.{AreMarked}
use Rattle.tdm_cli.proofs.baseline.sources.Given as goal

abbrev pub invariant-loop-n : goal.invariant-loop-n
invariant-loop-n l = AreMarked l.problem l.n l.marks.items
