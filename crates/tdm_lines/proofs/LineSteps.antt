-- One piece of a text as a line.
use Rattle.std.proofs.Common.{◌≡◌, ℕ, ◌+◌, ◌≤◌, Bool, true, false, not, nat_lt, if◌then◌else◌, List, [], ◌∷◌, length, map, refl, ap, sym, ◌∙◌, arith, Option, Some, None, is_some}
use Rattle.std.specs.List.{list_all, All}
use Rattle.std.proofs.lemmas.Grind.{common_steps}
use Rattle.std.proofs.lemmas.List.Elements.{All-cons}
use Rattle.tdm_lines.specs.Tokens.{fits, value}
use Rattle.tdm_lines.specs.Lines.{Line, TokenFault, BadNumber, NumberTooLarge, pieces, put_line, line_of, lines_from, numbers_of}
use Rattle.tdm_lines.specs.Scan.{first_tokens, after_first_line, IsReadOf}
use Rattle.tdm_lines.proofs.TextLemmas.{lines_from-step}

put_line-some : (max n : ℕ) (toks : List (List ℕ)) (later : List Line) → true ≡ nat_lt 0 (length toks)
    → put_line max n toks later ≡ line_of max n toks ∷ later
put_line-some max n [] later h = absurd (cc)
put_line-some max n (t ∷ ts) later h = refl

put_line-none : (max n : ℕ) (toks : List (List ℕ)) (later : List Line) → false ≡ nat_lt 0 (length toks)
    → put_line max n toks later ≡ later
put_line-none max n [] later h = refl
put_line-none max n (t ∷ ts) later h = absurd (grind (arith, common_steps))

-- a line that was read is the first line
pub first_line-read : (max n : ℕ) (text rest numbers : List ℕ) (fault : Option TokenFault)
    → rest ≡ after_first_line text → true ≡ nat_lt 0 (length (first_tokens text))
    → IsReadOf max (first_tokens text) fault numbers
    → lines_from max n (pieces text) ≡ record { number = n; fault = fault; numbers = numbers }
    ∷ lines_from max (n + 1) (pieces rest)
first_line-read max n text rest numbers fault after some read =
    let later : lines_from max (n + 1) (pieces (after_first_line text))
    ≡ lines_from max (n + 1) (pieces rest) =
    ap (λ t. lines_from max (n + 1) (pieces t)) (sym after) in
    let line : Option TokenFault → List ℕ → Line = λ f ns. record { number = n; fault = f; numbers = ns } in
    lines_from-step max n text ∙ put_line-some max n (first_tokens text) _ some
    ∙ (λ i. line (sym read.fault_is i) (sym read.numbers_are i) ∷ later i)

-- a piece without a token is no line
pub lines_from-skip : (max n : ℕ) (text rest : List ℕ) → rest ≡ after_first_line text
    → false ≡ nat_lt 0 (length (first_tokens text))
    → lines_from max (n + 1) (pieces rest) ≡ lines_from max n (pieces text)
lines_from-skip max n text rest after none =
    ap (λ t. lines_from max (n + 1) (pieces t)) after
    ∙ sym (lines_from-step max n text ∙ put_line-none max n (first_tokens text) _ none)

map_value-within : (max : ℕ) (toks : List (List ℕ)) → list_all (fits max) toks ≡ true
    → All (λ n. n ≤ max) (map value toks)
map_value-within max [] h = λ k d lt. absurd (omega arith)
map_value-within max (t ∷ ts) h =
    All-cons (λ n. n ≤ max) (value t) (map value ts) (grind (arith, common_steps))
    (map_value-within max ts (grind (arith, common_steps)))

kept-within : (max : ℕ) (numeric fit : Bool) (numbers : List ℕ) → (fit ≡ true → All (λ n. n ≤ max) numbers)
    → All (λ n. n ≤ max)
    (if is_some {T = TokenFault} (if not numeric then Some BadNumber else
    (if not fit then Some NumberTooLarge else None)) then [] else numbers)
kept-within max false fit numbers h = λ k d lt. absurd (omega arith)
kept-within max true false numbers h = λ k d lt. absurd (omega arith)
kept-within max true true numbers h = h refl

-- no number of a line is above the largest
pub numbers_of-within : (max : ℕ) (toks : List (List ℕ)) → All (λ n. n ≤ max) (numbers_of max toks)
numbers_of-within max toks = kept-within max _ (list_all (fits max) toks) (map value toks)
    (map_value-within max toks)

pub read-within : (max most : ℕ) (toks : List (List ℕ)) (fault : Option TokenFault) (numbers : List ℕ)
    → IsReadOf max toks fault numbers → max ≡ most → All (λ n. n ≤ most) numbers
read-within max most toks fault numbers read same = rw (read.numbers_are, ← same) (numbers_of-within max toks)
