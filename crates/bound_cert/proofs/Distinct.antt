-- Different numbers below a limit are no more than the limit.
use Rattle.std.proofs.Common.{◌≡◌, ◌≢◌, ℕ, ◌<◌, ◌≤◌, true, eqb, List, length, get_or, arith}
use Rattle.std.specs.Prelude.{All, AllPairs}
use Rattle.std.specs.Cmp.{unsigned_Decides}
use Rattle.std.proofs.lemmas.Bool.{eqb-true}
use Rattle.std.proofs.lemmas.List.Folds.{Any-from_list_any}
use Rattle.std.proofs.lemmas.Map.Steps.{length-le_from_distinct_below}
use Rattle.std.proofs.lemmas.Map.Made.{IsDistinct-from_AllPairs}

pub length_of_distinct : (xs : List ℕ) (n : ℕ) → AllPairs (λ x y. x ≢ y) xs → All (λ x. x < n) xs
    → length xs ≤ n
length_of_distinct xs n distinct below =
    length-le_from_distinct_below xs n (IsDistinct-from_AllPairs {eq = eqb} unsigned_Decides xs distinct)
    (λ q found. here q (Any-from_list_any (λ y. eqb q y) xs found))
  where
    here : (q : ℕ) → (k : ℕ) × (x : ℕ) × (k < length xs) × (get_or xs k x ≡ x) × (eqb q x ≡ true) → q < n
    here q (k, x, there, is, same) = omega (arith, eqb-true q x same, below k x there, is)
