use Rattle.std.specs.Prelude.{ℕ, ◌+◌, ◌*◌, ◌==◌, List, [], ◌∷◌, if◌then◌else◌}
use Rattle.std.specs.List.{list_any}
use Rattle.tdm_problem.specs.Routing.{Routing}
use Rattle.tdm_problem.specs.Value.{group_sum}

-- the weight of net n: the sum of the weights of the groups that hold it, where a group past the last weight
-- weighs nothing
abbrev pub net_weight : (groups : List (List ℕ)) → (weights : List ℕ) → (n : ℕ) → ℕ
net_weight [] weights n = 0
net_weight (group ∷ groups) [] n = 0
net_weight (group ∷ groups) (weight ∷ weights) n =
    (if list_any (λ m. m == n) group then weight else 0) + net_weight groups weights n

-- the sum over the groups of the weight times a number of the group
abbrev pub weighted_by : (List ℕ → ℕ) → (groups : List (List ℕ)) → (weights : List ℕ) → ℕ
weighted_by f [] weights = 0
weighted_by f (group ∷ groups) [] = 0
weighted_by f (group ∷ groups) (weight ∷ weights) = weight * f group + weighted_by f groups weights

-- the weighted sum of the group sums
abbrev pub weighted_sums : Routing → (groups : List (List ℕ)) → (weights : List ℕ) → ℕ
weighted_sums routing groups weights = weighted_by (group_sum routing) groups weights
