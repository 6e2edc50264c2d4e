-- Loads that are roots of weights are no longer than a wire of a certificate may be.
use Rattle.std.proofs.Common.{◌≡◌, ℕ, zero, suc, ◌+◌, ◌*◌, ◌^◌, ◌<◌, ◌≤◌, ◌⊎◌, Bool, true, false, cond, List, [], ◌∷◌, length, refl, ap, inl, inr, arith}
use Rattle.std.specs.Prelude.{All, ◌==◌, replicate, slice_index, sum_by}
use Rattle.std.specs.List.{list_any}
use Rattle.std.proofs.lemmas.Bool.{cases_lt}
use Rattle.std.proofs.lemmas.List.Elements.{All-tail}
use Rattle.std.proofs.lemmas.List.Sums.{sum_by-cons}
use Rattle.std.proofs.lemmas.Nat.{mul-le}
use Rattle.tdm_problem.specs.Board.{Board, IsBoard}
use Rattle.tdm_problem.specs.Loads.{load_by, load_of}
use Rattle.tdm_problem.specs.Sums.{sum_below}
use Rattle.tdm_problem.specs.Trees.{tree_of}
use Rattle.tdm_problem.specs.Weights.{net_weight, weighted_by}
use Rattle.tdm_problem.proofs.Exchanges.{weighted_by-nets}
use Rattle.tdm_problem.proofs.Roots.{root_of-square}
use Rattle.tdm_problem.proofs.SumsBelow.{sum_below-agree, sum_below-le, sum_below-times}
use Rattle.tdm_cli.specs.Rounds.{AreRoots}

-- a root is at most 2^20 for each group that holds the net, where no group weighs more than 2^40
root-limit : (root holders : ℕ) → root * root ≤ 2 ^ 40 * holders → root ≤ 2 ^ 20 * holders
root-limit root zero square = go (cases_lt 0 root)
  where
    go : (0 < root) ⊎ (root ≤ 0) → root ≤ 2 ^ 20 * 0
    go (inl some) = absurd (omega (
      arith,
      square,
      mul-le 1 1 root root (omega (arith, some)) (omega (arith, some)),
    ))
    go (inr none) = omega (arith, none)
root-limit root (suc k) square = go (cases_lt (2 ^ 20 * suc k) root)
  where
    go : (2 ^ 20 * suc k < root) ⊎ (root ≤ 2 ^ 20 * suc k) → root ≤ 2 ^ 20 * suc k
    go (inl more) =
        absurd (omega (
          arith,
          square,
          mul-le (2 ^ 20 * suc k + 1) (2 ^ 20 * suc k + 1) root root (omega (arith, more))
              (omega (arith, more)),
          mul-le 1 (suc k) (suc k) (suc k) (omega arith) (omega arith),
        ))
    go (inr fine) = fine

part-limit : (holds : Bool) (weight rest ones : ℕ) → weight ≤ 2 ^ 40 → rest ≤ 2 ^ 40 * ones
    → cond holds weight 0 + rest ≤ 2 ^ 40 * (cond holds 1 0 + ones)
part-limit true weight rest ones small more = omega (arith, small, more)
part-limit false weight rest ones small more = omega (arith, small, more)

-- the weight of a net is at most 2^40 for each group that holds it
weight-limit : (groups : List (List ℕ)) (weights : List ℕ) (n : ℕ) → All (λ w. w ≤ 2 ^ 40) weights
    → net_weight groups weights n ≤ 2 ^ 40 * net_weight groups (replicate (length groups) 1) n
weight-limit [] weights n small = omega arith
weight-limit (group ∷ groups) [] n small = omega arith
weight-limit (group ∷ groups) (weight ∷ weights) n small =
    part-limit (list_any (λ m. m == n) group) weight (net_weight groups weights n)
    (net_weight groups (replicate (length groups) 1) n)
    (small 0 0 (omega arith))
    (weight-limit groups weights n (All-tail (λ w. w ≤ 2 ^ 40) weight weights small))

-- each net once for each group that holds it
sum-ones : (xs : List ℕ) → sum_by (λ _. 1) xs ≡ length xs
sum-ones [] = refl
sum-ones (x ∷ xs) = omega (arith, sum_by-cons (λ (_ : ℕ). 1) x xs, sum-ones xs)

weighted-ones : (groups : List (List ℕ)) → weighted_by (sum_by (λ _. 1)) groups (replicate (length groups) 1)
    ≡ sum_by length groups
weighted-ones [] = refl
weighted-ones (group ∷ groups) =
    omega (arith, sum-ones group, sum_by-cons (λ (g : List ℕ). length g) group groups, weighted-ones groups)

module _ (board : Board) (is : IsBoard board) (weights numbers : List ℕ)
    (small : All (λ w. w ≤ 2 ^ 40) weights) (roots : AreRoots board weights numbers) where
  holders : ℕ → ℕ
  holders n = net_weight board.groups (replicate (length board.groups) 1) n

  number-limit : (n : ℕ) → n < length board.nets → slice_index numbers n ≤ 2 ^ 20 * holders n
  unfolding holders
  number-limit n there =
      root-limit (slice_index numbers n) (holders n)
      (omega (
        arith,
        ap (λ (r : ℕ). r * r) (roots.each n there),
        root_of-square (net_weight board.groups weights n),
        weight-limit board.groups weights n small,
      ))

  holders-total : sum_below (length board.nets) holders ≤ 2 ^ 24
  unfolding holders
  holders-total =
      omega (
        arith,
        sum_below-agree (length board.nets) holders (λ n. holders n * 1) (λ n there. omega arith),
        weighted_by-nets (λ _. 1) (length board.nets) board.groups (replicate (length board.groups) 1)
            is.groups,
        weighted-ones board.groups,
        is.group_total,
      )

  load-by-limit : (number : ℕ) (tree : List ℕ) (e : ℕ) → load_by number tree e ≤ number
  load-by-limit number tree e = go (list_any (λ d. d == e) tree)
    where
      go : (b : Bool) → cond b number 0 ≤ number
      go true = omega arith
      go false = omega arith

  -- the load of a wire is at most 2^44
  pub load-limit : (trees : List (List ℕ)) → length trees ≡ length board.nets → (e : ℕ)
      → load_of trees numbers e ≤ 2 ^ 44
  load-limit trees count e =
      omega (
        arith,
        ap (λ (n : ℕ). sum_below n (λ n. load_by (slice_index numbers n) (tree_of trees n) e)) count,
        sum_below-le (length board.nets) (λ n. load_by (slice_index numbers n) (tree_of trees n) e)
            (λ n. 2 ^ 20 * holders n)
            (λ n there. omega (
              arith,
              load-by-limit (slice_index numbers n) (tree_of trees n) e,
              number-limit n there,
            )),
        sum_below-times (length board.nets) (2 ^ 20) holders,
        holders-total,
      )
