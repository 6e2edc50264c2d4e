use Rattle.std.proofs.Common.{◌≡◌, ◌*◌, ◌^◌, ◌≤◌, take}
use Rattle.std.specs.Prelude.{sum_by}
use Rattle.even_legalise.proofs.SharedSteps.{claimed_ratio}
use Rattle.even_legalise.proofs.group_sums.sum_of_net.Given as goal

abbrev pub invariant-loop-e : goal.invariant-loop-e
invariant-loop-e l = (l.total ≡ sum_by (claimed_ratio l.least l.claims l.number) (take l.e-index l.wires))
    × (l.total ≤ l.e-index * 2 ^ 30)
