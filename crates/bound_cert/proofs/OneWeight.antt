-- Weights that are 1 for one group and 0 for the others.
use Rattle.std.proofs.Common.{◌≡◌, ℕ, zero, suc, ◌<◌, ◌≤◌, List, [], ◌∷◌, length, get_or, set, refl, ◌∙◌, arith, get_or-set_same, get_or-set_other}
use Rattle.std.specs.Prelude.{replicate, sum, All}
use Rattle.std.proofs.lemmas.List.{length-set, length-replicate, get_or-replicate}
use Rattle.std.proofs.lemmas.List.Elements.{All-set, All-replicate}
use Rattle.std.proofs.lemmas.List.Sums.{sum_by-cons, sum_by-set}
use Rattle.tdm_problem.specs.Weights.{weighted_by}

-- the weights of n groups, 1 for group g alone
abbrev pub one_weight : ℕ → ℕ → List ℕ
one_weight n g = set (replicate n 0) g 1

pub length-one_weight : (n g : ℕ) → length (one_weight n g) ≡ n
length-one_weight n g = length-set (replicate n 0) g 1 ∙ length-replicate n 0

pub one_weight-same : (n g : ℕ) → g < n → get_or (one_weight n g) g 0 ≡ 1
one_weight-same n g there =
    get_or-set_same (replicate n 0) g 1 0 (omega (arith, length-replicate {A = ℕ} n 0))

pub one_weight-other : (n g k : ℕ) → k < n → (k ≡ g → ⊥) → get_or (one_weight n g) k 0 ≡ 0
one_weight-other n g k there other = get_or-set_other (replicate n 0) g k 1 0 other
    ∙ get_or-replicate n k 0 0 there

-- none is more than 1
pub one_weight-small : (n g : ℕ) → All (λ w. w ≤ 1) (one_weight n g)
one_weight-small n g = All-set (λ w. w ≤ 1) (replicate n 0) g 1 (omega arith)
    (All-replicate (λ w. w ≤ 1) n 0 (omega arith))

sum-zeros : (n : ℕ) → sum (replicate n 0) ≡ 0
sum-zeros zero = refl
sum-zeros (suc n) = omega (arith, sum_by-cons (λ (x : ℕ). x) 0 (replicate n 0), sum-zeros n)

-- together they are 1
pub sum-one_weight : (n g : ℕ) → g < n → sum (one_weight n g) ≡ 1
sum-one_weight n g there =
    omega (
      arith,
      sum_by-set (λ (x : ℕ). x) (replicate n 0) g 1 0
          (omega (arith, length-replicate {A = ℕ} n 0)),
      get_or-replicate {A = ℕ} n g 0 0 there,
      sum-zeros n,
    )

-- weighted by them, a sum over the groups is the number of that group
weighted-zeros : (f : List ℕ → ℕ) (groups : List (List ℕ))
    → weighted_by f groups (replicate (length groups) 0) ≡ 0
weighted-zeros f [] = refl
weighted-zeros f (group ∷ groups) = omega (arith, weighted-zeros f groups)

pub weighted-one : (f : List ℕ → ℕ) (groups : List (List ℕ)) (g : ℕ) → g < length groups
    → weighted_by f groups (one_weight (length groups) g) ≡ f (get_or groups g [])
weighted-one f [] g there = absurd (omega arith)
weighted-one f (group ∷ groups) zero there = omega (arith, weighted-zeros f groups)
weighted-one f (group ∷ groups) (suc g) there = omega (arith, weighted-one f groups g (omega arith))
