-- Each line of a text that has no fault has a number.
use Rattle.std.proofs.Common.{◌≡◌, ℕ, ◌+◌, ◌<◌, cond, List, [], ◌∷◌, length, map, Option, None, Some, arith}
use Rattle.std.specs.Prelude.{is_some}
use Rattle.tdm_lines.specs.declared.line.TokenFault.{TokenFault}
use Rattle.tdm_lines.specs.Tokens.{tokens, value}
use Rattle.tdm_lines.specs.Lines.{Line, fault_of, lines_from, put_line}

-- each line without a fault has a number
abbrev pub HaveNumbers : List Line → Type 0
HaveNumbers [] = Unit {0}
HaveNumbers (line ∷ later) = (line.fault ≡ None → 0 < length line.numbers) × HaveNumbers later

some_numbers : (fault : Option TokenFault) (t : List ℕ) (ts : List (List ℕ)) → fault ≡ None
    → 0 < length (cond (is_some fault) [] (value t ∷ map value ts))
some_numbers None t ts none = omega arith
some_numbers (Some f) t ts none = absurd (cc)

HaveNumbers-put_line : (max n : ℕ) (toks : List (List ℕ)) (later : List Line) → HaveNumbers later
    → HaveNumbers (put_line max n toks later)
HaveNumbers-put_line max n [] later have = have
HaveNumbers-put_line max n (t ∷ ts) later have = (
  λ none. some_numbers (fault_of max (t ∷ ts)) t ts none,
  have,
)

pub HaveNumbers-lines_from : (max n : ℕ) (pieces : List (List ℕ)) → HaveNumbers (lines_from max n pieces)
HaveNumbers-lines_from max n [] = tt
HaveNumbers-lines_from max n (piece ∷ more) =
    HaveNumbers-put_line max n (tokens piece) (lines_from max (n + 1) more)
    (HaveNumbers-lines_from max (n + 1) more)
