use Rattle.std.proofs.Common.{◌≡◌, take}
use Rattle.tdm_problem.specs.Value.{largest}
use Rattle.group_multipliers.proofs.renewal.largest_pull.Given as goal

abbrev pub invariant-loop-pull : goal.invariant-loop-pull
invariant-loop-pull l = l.most ≡ largest (take l.pull-index l.pulls)
