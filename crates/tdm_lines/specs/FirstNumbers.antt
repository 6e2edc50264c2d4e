-- The first numbers of a line.
use Rattle.std.specs.Prelude.{◌≡◌, ℕ, ◌≤◌, List, take, All}

-- the numbers that are kept, at most so many, none above the largest
pub record Firsts : Type 0 where
  pub most : ℕ
  pub largest : ℕ
  pub numbers : List ℕ

-- the first of these numbers are kept, where none of them is above the largest
abbrev pub AreFirst : Firsts → List ℕ → Type 0
AreFirst kept numbers = All (λ n. n ≤ kept.largest) numbers → kept.numbers ≡ take kept.most numbers
