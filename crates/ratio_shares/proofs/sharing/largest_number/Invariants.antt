use Rattle.std.proofs.Common.{◌≡◌, take}
use Rattle.tdm_problem.specs.Value.{largest}
use Rattle.ratio_shares.proofs.sharing.largest_number.Given as goal

abbrev pub invariant-loop-number : goal.invariant-loop-number
invariant-loop-number l = l.most ≡ largest (take l.number-index l.numbers)
