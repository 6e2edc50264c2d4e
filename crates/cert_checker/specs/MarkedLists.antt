-- Lists of numbers without repeats.
use Rattle.std.specs.Prelude.{◌≡◌, ◌≢◌, ℕ, ◌<◌, ◌⊎◌, Bool, List, [], ◌∷◌, ◌++◌, length, Contains, All, AllPairs}
use Rattle.cert_checker.specs.Growing.{AreGoals}

-- a list of numbers below a limit
pub record Marked : Type 0 where
  pub limit : ℕ
  pub listed : List ℕ

-- the marks are those of the listed numbers, none of which stands twice
pub record AreMarked (listed : List ℕ) (marks : List Bool) : Type 0 where
  pub marked : AreGoals listed marks
  pub there : All (λ x. x < length marks) listed
  pub distinct : AllPairs (λ x y. x ≢ y) listed

-- the number is put behind the list where it was not in it
abbrev pub IsAdded : (x : ℕ) → (old new : List ℕ) → Type 0
IsAdded x old new = ((new ≡ old) × Contains old x) ⊎ (new ≡ old ++ x ∷ [])

-- the list is the other, with more behind it or nothing
abbrev pub IsLonger : (old new : List ℕ) → Type 0
IsLonger old new = (more : List ℕ) × (new ≡ old ++ more)
