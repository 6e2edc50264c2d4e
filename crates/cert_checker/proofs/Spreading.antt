-- the least and the largest of some values, one after another
use Rattle.std.proofs.Common.{◌≡◌, ℕ, ◌+◌, ◌<◌, List, [], ◌∷◌, ◌++◌, length, map, get_or, take, ap, ◌∙◌, arith}
use Rattle.std.specs.Prelude.{max, min}
use Rattle.std.proofs.lemmas.List.{map_more, length-map, length-take}
use Rattle.tdm_problem.specs.Value.{largest}
use Rattle.bound_cert.specs.Bound.{smallest}

largest_push : (xs : List ℕ) (y : ℕ) → largest (xs ++ y ∷ []) ≡ max (largest xs) y
largest_push [] y = omega arith
largest_push (x ∷ xs) y = omega (arith, largest_push xs y)

smallest_push : (x : ℕ) (xs : List ℕ) (y : ℕ) → smallest (x ∷ xs ++ y ∷ []) ≡ min (smallest (x ∷ xs)) y
smallest_push x [] y = omega arith
smallest_push x (z ∷ xs) y = omega (arith, smallest_push z xs y)

smallest_push_some : (xs : List ℕ) (y : ℕ) → 0 < length xs → smallest (xs ++ y ∷ []) ≡ min (smallest xs) y
smallest_push_some [] y some = absurd (omega arith)
smallest_push_some (x ∷ xs) y some = smallest_push x xs y

-- the largest value of one place more
pub largest_more : (f : ℕ → ℕ) (xs : List ℕ) (i : ℕ) → i < length xs → largest (map f (take (i + 1) xs))
    ≡ max (largest (map f (take i xs))) (f (get_or xs i 0))
largest_more f xs i inside = ap largest (map_more f xs i 0 inside)
    ∙ largest_push (map f (take i xs)) (f (get_or xs i 0))

-- the smallest value of one place more, where there was one before
pub smallest_more : (f : ℕ → ℕ) (xs : List ℕ) (i : ℕ) → 0 < i → i < length xs
    → smallest (map f (take (i + 1) xs)) ≡ min (smallest (map f (take i xs))) (f (get_or xs i 0))
smallest_more f xs i some inside =
    ap smallest (map_more f xs i 0 inside)
    ∙ smallest_push_some (map f (take i xs)) (f (get_or xs i 0)) (omega (
      arith,
      length-map (take i xs) f,
      length-take i xs,
    ))
