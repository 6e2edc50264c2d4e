-- Different numbers below a limit are no more than the limit.
use Rattle.std.proofs.Common.{◌≡◌, ◌≢◌, ℕ, ◌<◌, ◌≤◌, true, eqb, List, length, arith, get_or}
use Rattle.std.specs.Prelude.{All, AllPairs}
use Rattle.std.specs.Cmp.{unsigned_Decides}
use Rattle.std.proofs.lemmas.Bool.{eqb-true}
use Rattle.std.proofs.lemmas.List.Folds.{Any-from_list_any}
use Rattle.std.proofs.lemmas.Map.Steps.{length-le_from_distinct_below}
use Rattle.std.proofs.lemmas.Map.Made.{IsDistinct-from_AllPairs}

pub distinct_few : (xs : List ℕ) (limit : ℕ) → AllPairs (λ x y. x ≢ y) xs → All (λ x. x < limit) xs
    → length xs ≤ limit
distinct_few xs limit distinct below =
    length-le_from_distinct_below xs limit (IsDistinct-from_AllPairs {eq = eqb} unsigned_Decides xs distinct)
    (λ q found. here q (Any-from_list_any (λ y. eqb q y) xs found))
  where
    here : (q : ℕ) → (k : ℕ) × (x : ℕ) × (k < length xs) × (get_or xs k x ≡ x) × (eqb q x ≡ true) → q < limit
    here q (k, x, there, is, same) = omega (arith, eqb-true q x same, below k x there, is)
