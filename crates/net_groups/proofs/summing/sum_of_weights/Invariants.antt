use Rattle.std.proofs.Common.{◌≡◌, ◌*◌, ◌^◌, ◌≤◌, take}
use Rattle.std.specs.Prelude.{sum_by, slice_index}
use Rattle.net_groups.proofs.summing.sum_of_weights.Given as goal

abbrev pub invariant-loop-g : goal.invariant-loop-g
invariant-loop-g l = (l.total ≡ sum_by (λ g. slice_index l.weights g) (take l.g-index l.groups))
    × (l.total ≤ l.g-index * 2 ^ 40)
