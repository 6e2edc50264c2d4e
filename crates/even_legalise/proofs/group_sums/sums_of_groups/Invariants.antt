use Rattle.std.proofs.Common.{◌≡◌, map, take}
use Rattle.std.specs.Prelude.{sum_by, slice_index}
use Rattle.even_legalise.proofs.group_sums.sums_of_groups.Given as goal

abbrev pub invariant-loop-g : goal.invariant-loop-g
invariant-loop-g l = l.sums.items ≡ map (λ group. sum_by (λ n. slice_index l.net_sums n) group)
    (take l.g l.problem.groups)
