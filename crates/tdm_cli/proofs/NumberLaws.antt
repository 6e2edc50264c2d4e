-- The numbers of a round.
use Rattle.std.proofs.Common.{◌≡◌, ℕ, zero, suc, ◌+◌, ◌^◌, ◌<◌, ◌≤◌, ◌⊎◌, List, [], ◌∷◌, ◌++◌, length, map, get_or, ap, ◌∙◌, inl, inr, arith}
use Rattle.std.specs.Prelude.{All, slice_index}
use Rattle.std.specs.List.{range_with_len}
use Rattle.std.proofs.lemmas.Bool.{cases_lt}
use Rattle.std.proofs.lemmas.List.{get_or-map, length-map}
use Rattle.std.proofs.lemmas.List.Elements.{All-map}
use Rattle.std.proofs.lemmas.List.FromFn.{get_or-range_with_len, length-range_with_len}
use Rattle.std.proofs.lemmas.Nat.{mul-le}
use Rattle.tdm_problem.specs.Board.{Board}
use Rattle.tdm_problem.specs.Roots.{root_of}
use Rattle.tdm_problem.specs.Weights.{net_weight}
use Rattle.tdm_problem.proofs.Roots.{root_of-square}
use Rattle.tdm_cli.specs.Rounds.{AreRoots}

-- one number more
range-from : (a n : ℕ) → range_with_len a (suc n) ≡ range_with_len a n ++ (a + n) ∷ []
range-from a zero = ap (λ (x : ℕ). x ∷ []) (let same : a ≡ a + 0 = omega arith in same)
range-from a (suc n) =
    ap (λ (xs : List ℕ). a ∷ xs)
    (range-from (a + 1) n ∙ ap (λ (x : ℕ). range_with_len (a + 1) n ++ x ∷ []) (let same : a + 1 + n
    ≡ a + suc n = omega arith in same))

pub range-more : (n : ℕ) → range_with_len 0 (n + 1) ≡ range_with_len 0 n ++ n ∷ []
range-more n =
    ap (range_with_len 0) (let next : n + 1 ≡ suc n = omega arith in next)
    ∙ (range-from 0 n ∙ ap (λ (x : ℕ). range_with_len 0 n ++ x ∷ []) (let same : 0 + n ≡ n = omega arith in
    same))

-- all numbers that are listed are there
pub range-below : (n : ℕ) → All (λ x. x < n) (range_with_len 0 n)
range-below n k d there =
    omega (
      arith,
      get_or-range_with_len 0 n k d (omega (arith, there, length-range_with_len 0 n)),
      there,
      length-range_with_len 0 n,
    )

-- the root of a number of 60 bits has 30
root-small : (n : ℕ) → n ≤ 2 ^ 60 → root_of n ≤ 2 ^ 30
root-small n small = go (cases_lt (2 ^ 30) (root_of n))
  where
    go : (2 ^ 30 < root_of n) ⊎ (root_of n ≤ 2 ^ 30) → root_of n ≤ 2 ^ 30
    go (inl more) = absurd (omega (
      arith,
      root_of-square n,
      small,
      mul-le (2 ^ 30 + 1) (2 ^ 30 + 1) (root_of n) (root_of n) (omega (arith, more))
          (omega (arith, more)),
    ))
    go (inr fine) = fine

pub roots-small : (sums : List ℕ) → All (λ w. w ≤ 2 ^ 60) sums → All (λ s. s ≤ 2 ^ 30) (map root_of sums)
roots-small sums small =
    All-map (λ s. s ≤ 2 ^ 30) root_of sums (λ k d there. root-small (get_or sums k d) (small k d there))

pub AreRoots-map : (board : Board) (weights sums : List ℕ) → length sums ≡ length board.nets
    → ((n : ℕ) → n < length board.nets → slice_index sums n ≡ net_weight board.groups weights n)
    → AreRoots board weights (map root_of sums)
AreRoots-map board weights sums count each = record {
  count = length-map sums root_of ∙ count;
  each = λ n there. get_or-map root_of sums n 0 0 (omega (arith, there, count)) ∙ ap root_of (each n there);
}
