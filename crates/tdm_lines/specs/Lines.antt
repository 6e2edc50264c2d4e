-- The lines of a text that have a token, each with its number and its numbers or its fault.
use Rattle.std.specs.Prelude.{ℕ, ◌+◌, ◌==◌, not, is_some, if◌then◌else◌, List, [], ◌∷◌, map, count_by, Option, None, Some}
use Rattle.std.specs.List.{slice_split, list_all}
use Rattle.tdm_lines.specs.Tokens.{tokens, is_number, fits, value}
pub use Rattle.tdm_lines.specs.declared.line.TokenFault.{TokenFault}
pub use Rattle.tdm_lines.specs.declared.line.TokenFault.TheVariants.{BadNumber, NumberTooLarge}

-- the pieces between line feeds: one more than there are line feeds
abbrev pub pieces : List ℕ → List (List ℕ)
pieces text = slice_split (λ byte. byte == 10) text

-- a line with a token: where it stands, what is wrong with it, and its numbers
pub record Line : Type 0 where
  pub number : ℕ
  pub fault : Option TokenFault
  pub numbers : List ℕ

-- a token that is no number is worse than a number above the largest
abbrev pub fault_of : ℕ → List (List ℕ) → Option TokenFault
fault_of max toks =
    if not (list_all is_number toks) then Some BadNumber
    else (if not (list_all (fits max) toks) then Some NumberTooLarge else None)

-- the tokens' numbers, or none where there is a fault
abbrev pub numbers_of : ℕ → List (List ℕ) → List ℕ
numbers_of max toks = if is_some (fault_of max toks) then [] else map value toks

-- line n of these tokens
abbrev pub line_of : ℕ → ℕ → List (List ℕ) → Line
line_of max n toks = record { number = n; fault = fault_of max toks; numbers = numbers_of max toks }

-- line n, where it has a token, and then the later lines
abbrev pub put_line : ℕ → ℕ → List (List ℕ) → List Line → List Line
put_line max n [] later = later
put_line max n (t ∷ ts) later = line_of max n (t ∷ ts) ∷ later

-- the lines of pieces that are numbered from n
abbrev pub lines_from : ℕ → ℕ → List (List ℕ) → List Line
lines_from max n [] = []
lines_from max n (piece ∷ more) = put_line max n (tokens piece) (lines_from max (n + 1) more)

-- the lines of a text, whose pieces are numbered from 1
abbrev pub lines : ℕ → List ℕ → List Line
lines max text = lines_from max 1 (pieces text)

-- the number of the last piece
abbrev pub line_after : List ℕ → ℕ
line_after text = count_by (λ byte. byte == 10) text + 1

-- the lines that are still to be read, none with a number above max
pub record Unread : Type 0 where
  pub max : ℕ
  pub lines : List Line
