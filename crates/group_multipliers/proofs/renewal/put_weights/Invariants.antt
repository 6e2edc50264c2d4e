use Rattle.std.proofs.Common.{◌≡◌, ◌++◌, map, take, drop}
use Rattle.group_multipliers.specs.Renewal.{weight_for}
use Rattle.group_multipliers.proofs.renewal.put_weights.Given as goal

abbrev pub invariant-loop-pull : goal.invariant-loop-pull
invariant-loop-pull l = l.pulls ≡ map (weight_for l.strongest) (take l.pull-index l.initial.pulls)
    ++ drop l.pull-index l.initial.pulls
