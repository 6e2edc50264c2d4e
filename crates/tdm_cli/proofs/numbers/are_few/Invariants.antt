use Rattle.std.proofs.Common.{◌≡◌, ◌≤◌, length, take}
use Rattle.std.specs.Prelude.{sum_by}
use Rattle.tdm_cli.specs.Baseline.{most_uses}
use Rattle.tdm_cli.proofs.numbers.are_few.Given as goal

abbrev pub invariant-loop-n : goal.invariant-loop-n
invariant-loop-n l = (l.used ≡ sum_by length (take l.n l.trees)) × (l.used ≤ most_uses)
