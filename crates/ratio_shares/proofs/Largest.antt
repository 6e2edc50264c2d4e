-- the largest of some numbers
use Rattle.std.proofs.Common.{◌≡◌, ℕ, ◌+◌, ◌<◌, ◌≤◌, List, length, get_or, take, ap, ◌∙◌, refl}
use Rattle.std.specs.Prelude.{All, max}
use Rattle.std.proofs.lemmas.List.{take_more}
use Rattle.std.proofs.lemmas.List.Recursion.{max_bounds, max_least, max_push}
use Rattle.tdm_problem.specs.Value.{largest}

-- the largest with one number more
pub largest_more : (xs : List ℕ) (i : ℕ) → i < length xs
    → largest (take (i + 1) xs) ≡ max (largest (take i xs)) (get_or xs i 0)
largest_more xs i inside =
    ap largest (take_more xs i 0 inside) ∙ max_push largest (λ x. x) refl (λ x rest. refl) (take i xs)
    (get_or xs i 0)

-- no number is above the largest
pub le-largest : (xs : List ℕ) → All (λ x. x ≤ largest xs) xs
le-largest xs = λ i d inside. max_bounds largest (λ x. x) refl (λ x rest. refl) xs i d inside

-- what none is above the largest is not above
pub largest_least : (xs : List ℕ) (m : ℕ) → All (λ x. x ≤ m) xs → largest xs ≤ m
largest_least xs m within = max_least largest (λ x. x) refl (λ x rest. refl) xs 0 m
    (λ i inside. within i 0 inside)
