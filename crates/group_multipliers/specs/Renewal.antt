use Rattle.std.specs.Prelude.{ℕ, ◌+◌, ◌-◌, ◌*◌, ◌/◌, ◌^◌, List, map}
use Rattle.std.specs.List.{zip}
use Rattle.tdm_problem.specs.Value.{largest}

-- the pull of a group: its weight times its sum, in units of the largest sum of a group, rounded down
abbrev pub pull : (greatest : ℕ) → (weight sum : ℕ) → ℕ
pull greatest weight sum = weight * sum / greatest

-- the pulls of all groups
abbrev pub pulls : (weights sums : List ℕ) → List ℕ
pulls weights sums = map (λ group. pull (largest sums) group.0 group.1) (zip weights sums)

-- the weight for a pull: one, and of the range that is left up to 2^40 the same part as the pull is of the
-- largest pull, rounded down
abbrev pub weight_for : (strongest : ℕ) → (pull : ℕ) → ℕ
weight_for strongest pull = 1 + pull * (2 ^ 40 - 1) / strongest

-- the weights after a round, from the weights of that round and the sums that it gave the groups
abbrev pub renewed : (weights sums : List ℕ) → List ℕ
renewed weights sums = map (weight_for (largest (pulls weights sums))) (pulls weights sums)
