use Rattle.std.proofs.Common.{◌≡◌, ◌*◌, ◌^◌, ◌≤◌, take}
use Rattle.std.specs.Prelude.{sum_by, slice_index}
use Rattle.even_legalise.proofs.group_sums.sum_of_group.Given as goal

abbrev pub invariant-loop-n : goal.invariant-loop-n
invariant-loop-n l = (l.total ≡ sum_by (λ n. slice_index l.net_sums n) (take l.n-index l.nets))
    × (l.total ≤ l.n-index * 2 ^ 96)
