use Rattle.std.proofs.Common.{◌≡◌, take}
use Rattle.group_multipliers.specs.Renewal.{pulls}
use Rattle.group_multipliers.proofs.renewal.pulls_of.Given as goal

abbrev pub invariant-loop-g : goal.invariant-loop-g
invariant-loop-g l = l.all.items ≡ take l.g (pulls l.weights l.sums)
