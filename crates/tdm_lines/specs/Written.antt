-- Lines that are written from their numbers.
use Rattle.std.specs.Prelude.{ℕ, ◌+◌, ◌<◌, ◌≤◌, List, [], ◌∷◌, ◌++◌, length, map, None, All}
use Rattle.std.specs.List.{join_with_byte}
use Rattle.tdm_lines.specs.Digits.{digits}
use Rattle.tdm_lines.specs.Lines.{Line}

-- the numbers' digits with single spaces between them, and a line feed
abbrev pub line_text : List ℕ → List ℕ
line_text numbers = join_with_byte 32 (map digits numbers) ++ 10 ∷ []

-- line n of these numbers, without a fault
abbrev pub plain_line : ℕ → List ℕ → Line
plain_line n numbers = record { number = n; fault = None; numbers = numbers }

-- one line for each list of numbers, numbered from n
abbrev pub plain_lines : ℕ → List (List ℕ) → List Line
plain_lines n [] = []
plain_lines n (numbers ∷ more) = plain_line n numbers ∷ plain_lines (n + 1) more

-- at least one number, and none above max
pub record IsRow (max : ℕ) (numbers : List ℕ) : Type 0 where
  pub some : 0 < length numbers
  pub within : All (λ n. n ≤ max) numbers
