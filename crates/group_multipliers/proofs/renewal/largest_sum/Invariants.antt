use Rattle.std.proofs.Common.{◌≡◌, take}
use Rattle.tdm_problem.specs.Value.{largest}
use Rattle.group_multipliers.proofs.renewal.largest_sum.Given as goal

abbrev pub invariant-loop-total : goal.invariant-loop-total
invariant-loop-total l = l.most ≡ largest (take l.total-index l.sums)
