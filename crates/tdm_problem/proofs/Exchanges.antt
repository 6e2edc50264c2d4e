use Rattle.std.proofs.Common.{◌≡◌, ◌≢◌, ℕ, suc, ◌+◌, ◌*◌, ◌<◌, ◌≤◌, Bool, true, false, cond, max, List, [], ◌∷◌, length, map, refl, sym, ap, ◌∙◌, arith, mul-le-mul_left}
use Rattle.std.specs.Prelude.{All, AllPairs, ◌||◌, ◌==◌, sum, sum_by}
use Rattle.std.specs.List.{list_any}
use Rattle.std.proofs.Math.Nat.{le-max_left, le-max_right}
use Rattle.std.proofs.lemmas.Bool.{eqb-true, ne_eqb}
use Rattle.std.proofs.lemmas.List.Elements.{All-head, All-tail}
use Rattle.std.proofs.lemmas.List.Folds.{list_any_none}
use Rattle.std.proofs.lemmas.List.Sums.{sum_by-cons, sum-map}
use Rattle.tdm_problem.specs.declared.solution.WireUse.{WireUse}
use Rattle.tdm_problem.specs.Board.{IsRowBelow}
use Rattle.tdm_problem.specs.Routing.{Routing, uses_of}
use Rattle.tdm_problem.specs.Sums.{sum_below}
use Rattle.tdm_problem.specs.Value.{net_sum, group_sum, largest}
use Rattle.tdm_problem.specs.Weights.{net_weight, weighted_by}
use Rattle.tdm_problem.specs.Laws.{WireSumLaw, ValueLaw}
use Rattle.tdm_problem.proofs.SumsBelow.{sum_below-add, sum_below-agree, sum_below-none, sum_below-one, sum_below-times}
use Rattle.tdm_problem.proofs.Users.{uses-by_wires}

-- the first of distinct numbers is none of the others
first-apart : (x : ℕ) (xs : List ℕ) → AllPairs (λ a b. a ≢ b) (x ∷ xs) → All (λ y. x ≢ y) xs
first-apart x xs distinct k d there = distinct 0 (suc k) d (omega arith) (omega (arith, there))

others-distinct : (x : ℕ) (xs : List ℕ) → AllPairs (λ a b. a ≢ b) (x ∷ xs) → AllPairs (λ a b. a ≢ b) xs
others-distinct x xs distinct i j d before there = distinct (suc i) (suc j) d (omega (arith, before))
    (omega (arith, there))

-- of two tests that do not both hold
either-part : (k : ℕ) (here later : Bool) → (here ≡ true → later ≡ false)
    → cond (here || later) k 0 ≡ cond here k 0 + cond later k 0
either-part k true later apart = rw (apart refl) (omega arith)
either-part k false later apart = omega arith

-- a sum over distinct numbers below a limit is a sum over the numbers below it, of those that are among them
pub sum_by-row : (f : ℕ → ℕ) (limit : ℕ) (row : List ℕ) → AllPairs (λ a b. a ≢ b) row
    → All (λ x. x < limit) row →
    sum_by f row ≡ sum_below limit (λ n. cond (list_any (λ m. m == n) row) (f n) 0)
sum_by-row f limit [] distinct below = sym (sum_below-none limit (λ n. 0) (λ i small. refl))
sum_by-row f limit (x ∷ row) distinct below =
    let absent : (n : ℕ) → (x == n) ≡ true → list_any (λ m. m == n) row ≡ false =
    λ n is. list_any_none (λ m. m == n) row
    (λ k d there. ne_eqb _ n (λ same. first-apart x row distinct k d there (eqb-true x n is ∙ sym same))) in
    omega (
      arith,
      sum_by-cons f x row,
      sum_by-row f limit row (others-distinct x row distinct) (All-tail (λ y. y < limit) x row below),
      sum_below-one limit x f (All-head (λ y. y < limit) x row below),
      sum_below-add limit (λ n. cond (x == n) (f n) 0) (λ n. cond (list_any (λ m. m == n) row) (f n) 0),
      sum_below-agree limit (λ n. cond (list_any (λ m. m == n) (x ∷ row)) (f n) 0)
          (λ n. cond (x == n) (f n) 0 + cond (list_any (λ m. m == n) row) (f n) 0)
          (λ n small. either-part (f n) (x == n) (list_any (λ m. m == n) row) (absent n)),
    )

-- one group's part of a net's weight
weight-part : (b : Bool) (weight rest k : ℕ) → (cond b weight 0 + rest) * k ≡ weight * cond b k 0 + rest * k
weight-part true weight rest k = omega arith
weight-part false weight rest k = omega arith

-- the weighted sums of f over the groups are the sum over the nets of the net's weight times f
pub weighted_by-nets : (f : ℕ → ℕ) (nets : ℕ) (groups : List (List ℕ)) (weights : List ℕ)
    → All (IsRowBelow nets) groups →
    weighted_by (sum_by f) groups weights ≡ sum_below nets (λ n. net_weight groups weights n * f n)
weighted_by-nets f nets [] weights rows = sym (sum_below-none nets (λ n. 0 * f n) (λ i small. omega arith))
weighted_by-nets f nets (group ∷ groups) [] rows =
    sym (sum_below-none nets (λ n. 0 * f n) (λ i small. omega arith))
weighted_by-nets f nets (group ∷ groups) (weight ∷ weights) rows =
    let row : IsRowBelow nets group = All-head (IsRowBelow nets) group groups rows in
    let scaled : weight * sum_by f group
    ≡ weight * sum_below nets (λ n. cond (list_any (λ m. m == n) group) (f n) 0) =
    ap (λ (x : ℕ). weight * x) (sum_by-row f nets group row.distinct row.below) in
    omega (
      arith,
      scaled,
      weighted_by-nets f nets groups weights (All-tail (IsRowBelow nets) group groups rows),
      sum_below-times nets weight (λ n. cond (list_any (λ m. m == n) group) (f n) 0),
      sum_below-add nets (λ n. weight * cond (list_any (λ m. m == n) group) (f n) 0)
          (λ n. net_weight groups weights n * f n),
      sum_below-agree nets (λ n. net_weight (group ∷ groups) (weight ∷ weights) n * f n)
          (λ n. weight * cond (list_any (λ m. m == n) group) (f n) 0 + net_weight groups weights n * f n)
          (λ n small. weight-part (list_any (λ m. m == n) group) weight (net_weight groups weights n) (f n)),
    )

-- a common factor of a sum
pub sum_by-times : {A : Type 0} (k : ℕ) (f : A → ℕ) (xs : List A) → sum_by (λ x. k * f x) xs ≡ k * sum_by f xs
sum_by-times k f [] = omega arith
sum_by-times k f (x ∷ xs) = omega (
  arith,
  sum_by-cons (λ y. k * f y) x xs,
  ap (λ (s : ℕ). k * s) (sum_by-cons f x xs),
  sum_by-times k f xs,
)

-- a net's weight times its sum, use by use
weighted-net_sum : (k : ℕ) (routing : Routing) (n : ℕ)
    → k * net_sum routing n ≡ sum_by (λ (u : WireUse). k * u.ratio) (uses_of routing n)
weighted-net_sum k routing n =
    ap (λ (x : ℕ). k * x) (sum-map (λ (u : WireUse). u.ratio) (uses_of routing n))
    ∙ sym (sum_by-times k (λ (u : WireUse). u.ratio) (uses_of routing n))

-- the weighted sum of the group sums, wire by wire
pub weighted_sums-by_wires : WireSumLaw
weighted_sums-by_wires board routing weights is is_for =
    let weight_of : ℕ → ℕ = net_weight board.groups weights in
    weighted_by-nets (net_sum routing) (length board.nets) board.groups weights is.groups
    ∙ ap (λ (nets : ℕ). sum_below nets (λ n. weight_of n * net_sum routing n)) (sym is_for.nets)
    ∙ sum_below-agree (length routing) (λ n. weight_of n * net_sum routing n)
    (λ n. sum_by (λ (u : WireUse). weight_of n * u.ratio) (uses_of routing n))
    (λ n below. weighted-net_sum (weight_of n) routing n)
    ∙ uses-by_wires (λ n e ratio. weight_of n * ratio) board routing is_for

-- one weight more
weighted-step : (weight here rest sum_rest largest_rest : ℕ) → rest ≤ sum_rest * largest_rest
    → weight * here + rest ≤ (weight + sum_rest) * max here largest_rest
weighted-step weight here rest sum_rest largest_rest before =
    let first : weight * here ≤ weight * max here largest_rest =
    mul-le-mul_left weight (le-max_left here largest_rest) in
    let others : sum_rest * largest_rest ≤ sum_rest * max here largest_rest =
    mul-le-mul_left sum_rest (le-max_right here largest_rest) in
    omega (arith, before, first, others)

-- weighted numbers of the groups sum to at most the sum of the weights times the largest of them
pub weighted_by-le_largest : (f : List ℕ → ℕ) (groups : List (List ℕ)) (weights : List ℕ)
    → weighted_by f groups weights ≤ sum weights * largest (map f groups)
weighted_by-le_largest f [] weights = omega arith
weighted_by-le_largest f (group ∷ groups) [] = omega arith
weighted_by-le_largest f (group ∷ groups) (weight ∷ weights) =
    rw (sum_by-cons (λ x. x) weight weights)
    (weighted-step weight (f group) (weighted_by f groups weights) (sum weights) (largest (map f groups))
    (weighted_by-le_largest f groups weights))

-- the weighted sum of the group sums is at most the sum of the weights times the value
pub weighted_sums-le_value : ValueLaw
weighted_sums-le_value board routing weights = weighted_by-le_largest (group_sum routing) board.groups weights
