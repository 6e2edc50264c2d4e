use Rattle.std.specs.Prelude.{◌≡◌, ℕ, ◌<◌, ◌==◌, List, [], ◌∷◌, ◌++◌, length, slice_index, if◌then◌else◌}
use Rattle.std.specs.List.{list_any}

-- the kept numbers, once another was met
abbrev pub with_met : List ℕ → ℕ → List ℕ
with_met kept x = if list_any (λ y. y == x) kept then kept else kept ++ x ∷ []

-- each kept number has its place among the kept ones written down
abbrev pub IsIndexed : List ℕ → List ℕ → Type 0
IsIndexed places kept = (k : ℕ) → k < length kept
    → (slice_index places (slice_index kept k) ≡ k) × (slice_index kept k < length places)
