-- What is written as a line is read as that line.
use Rattle.std.proofs.Common.{◌≡◌, ℕ, ◌+◌, ◌<◌, ◌≤◌, ◌^◌, ◌%◌, get_or, length-append, true, List, [], ◌∷◌, ◌++◌, length, map, refl, ap, ◌∙◌, arith, append_assoc}
use Rattle.std.specs.List.{list_all, All, join_with_byte, flat_map}
use Rattle.std.specs.Char.{is_ascii_digit, digit_value}
use Rattle.std.specs.Str.Parse.{AllDigits}
use Rattle.std.proofs.lemmas.Grind.{common_steps}
use borrow.Author.Tests.{le-leb}
use Rattle.std.proofs.lemmas.Fmt.{decimal_is_IsNumeral_wide, decimal_by_steps_wide}
use Rattle.std.proofs.Math.ListN.{get_or-append}
use Rattle.std.proofs.lemmas.List.Elements.{All-head, All-tail, All-nil, All-cons}
use Rattle.tdm_lines.specs.Digits.{digits}
use Rattle.tdm_lines.specs.Tokens.{is_number, fits, value}
use Rattle.tdm_lines.specs.Lines.{Line, pieces, lines_from, line_of, put_line}
use Rattle.tdm_lines.specs.Scan.{first_tokens, after_first_line, is_token_byte}
use Rattle.tdm_lines.specs.Written.{line_text, plain_line, plain_lines, IsRow}
use Rattle.tdm_lines.proofs.TextLemmas.{BeginsWith-run, IsCut, SameAhead-blank, SameAhead-refl, lines_from-step}

-- a byte that is worth less than 10 is one from '0' to '9'
digit_range : (byte : ℕ) → digit_value byte < 10 → (48 ≤ byte) × (byte ≤ 57)
digit_range byte lt = grind (arith, common_steps)

token_byte : (byte : ℕ) → 48 ≤ byte → is_token_byte byte ≡ true
token_byte byte le = grind (arith, common_steps)

digit_test : (byte : ℕ) → 48 ≤ byte → byte ≤ 57 → is_ascii_digit byte ≡ true
digit_test byte low high = grind (arith, common_steps)

digit_byte : (byte : ℕ) → digit_value byte < 10 → (is_ascii_digit byte ≡ true) × (is_token_byte byte ≡ true)
digit_byte byte lt = let r = digit_range byte lt in (digit_test byte r.0 r.1, token_byte byte r.0)

-- digits are bytes of a token, and of a number
digits_are : (ds : List ℕ) → AllDigits 10 ds → (list_all is_ascii_digit ds ≡ true)
    × (list_all is_token_byte ds ≡ true)
digits_are [] h = (refl, refl)
digits_are (d ∷ ds) h = let here = digit_byte d h.0 in let later = digits_are ds h.1 in
    (rw (here.0, later.0) refl, rw (here.1, later.1) refl)

-- reading a number's digits gives the number
pub value-digits : (n : ℕ) → n < 10 ^ 64 → value (digits n) ≡ n
value-digits n lt = (decimal_is_IsNumeral_wide n lt).1

pub is_number-digits : (n : ℕ) → n < 10 ^ 64 → is_number (digits n) ≡ true
is_number-digits n lt = (digits_are (digits n) (decimal_is_IsNumeral_wide n lt).0.1).0

-- the first digit is no zero, but that of 0
pub first-digits : (n : ℕ) → n < 10 ^ 64 → 0 < n → 48 < get_or (digits n) 0 0
first-digits n small some =
    (decimal_by_steps_wide (λ m ds. (0 < length ds) × (0 < m → 48 < get_or ds 0 0)) (λ m l. (
      omega arith,
      λ a. omega arith,
    ))
    (λ m ds l h. (
      omega (arith, length-append ds ((48 + m % 10) ∷ [])),
      λ a. omega (arith, get_or-append ds ((48 + m % 10) ∷ []) 0 0 h.0, h.1 (omega arith)),
    ))
    n small).1 some

-- a token: at least one byte, and each of them a token's
pub record IsToken (token : List ℕ) : Type 0 where
  pub some : 0 < length token
  pub bytes : list_all is_token_byte token ≡ true

pub IsToken-digits : (n : ℕ) → n < 10 ^ 64 → IsToken (digits n)
IsToken-digits n lt = let numeral = (decimal_is_IsNumeral_wide n lt).0 in
    record { some = numeral.0; bytes = (digits_are (digits n) numeral.1).1 }

-- a text begins with these tokens and a line feed, after which the rest stands
pub record BeginsWithLine (text : List ℕ) (toks : List (List ℕ)) (rest : List ℕ) : Type 0 where
  pub toks_are : first_tokens text ≡ toks
  pub rest_is : after_first_line text ≡ rest

pub BeginsWithLine-join : (toks : List (List ℕ)) (rest : List ℕ) → All IsToken toks
    → BeginsWithLine (join_with_byte 32 toks ++ 10 ∷ rest) toks rest
unfolding IsCut
BeginsWithLine-join [] rest h = record { toks_are = refl; rest_is = refl }
BeginsWithLine-join (t ∷ []) rest h =
    let token = All-head IsToken t [] h in
    let begins = BeginsWith-run t (10 ∷ rest) token.bytes token.some refl in
    record { toks_are = begins.first; rest_is = begins.same_lines }
BeginsWithLine-join (t ∷ u ∷ more) rest h =
    let token = All-head IsToken t (u ∷ more) h in
    let later = join_with_byte 32 (u ∷ more) ++ 10 ∷ rest in
    let begins = BeginsWith-run t (32 ∷ later) token.bytes token.some refl in
    let same = SameAhead-blank (32 ∷ later) later 32 refl (SameAhead-refl (32 ∷ later)) in
    let next = BeginsWithLine-join (u ∷ more) rest (All-tail IsToken t (u ∷ more) h) in
    let text : join_with_byte 32 (t ∷ u ∷ more) ++ 10 ∷ rest ≡ t ++ (32 ∷ later) =
    append_assoc t (32 ∷ join_with_byte 32 (u ∷ more)) (10 ∷ rest) in
    record {
      toks_are = ap first_tokens text ∙ begins.first ∙ ap (λ ts. t ∷ ts) (same.same_tokens ∙ next.toks_are);
      rest_is = ap after_first_line text ∙ begins.same_lines ∙ same.same_lines ∙ next.rest_is;
    }

put_line-row : (max n : ℕ) (ns : List ℕ) (later : List Line) → 0 < length ns
    → put_line max n (map digits ns) later ≡ line_of max n (map digits ns) ∷ later
put_line-row max n [] later h = absurd (omega arith)
put_line-row max n (m ∷ ms) later h = refl

line_of-plain : (max n : ℕ) (toks : List (List ℕ)) (ns : List ℕ) → list_all is_number toks ≡ true
    → list_all (fits max) toks ≡ true → map value toks ≡ ns → line_of max n toks ≡ plain_line n ns
line_of-plain max n toks ns numeric fit values = rw (numeric, fit, values) refl

-- the fault and the numbers of the digits of numbers that fit
module _ (max : ℕ) (room : max < 10 ^ 64) where
  written_fits : (ns : List ℕ) → All (λ n. n ≤ max) ns → (All IsToken (map digits ns))
      × (list_all is_number (map digits ns) ≡ true) × (list_all (fits max) (map digits ns) ≡ true)
      × (map value (map digits ns) ≡ ns)
  written_fits [] h = (All-nil IsToken, refl, refl, refl)
  written_fits (n ∷ ns) h =
      let here : n ≤ max = All-head (λ m. m ≤ max) n ns h in
      let small : n < 10 ^ 64 = omega (arith, here) in
      let later = written_fits ns (All-tail (λ m. m ≤ max) n ns h) in
      let same = value-digits n small in
      let fit : fits max (digits n) ≡ true = rw same (le-leb n max here) in (
        All-cons IsToken _ _ (IsToken-digits n small) later.0,
        rw (is_number-digits n small, later.1) refl,
        rw (fit, later.2) refl,
        rw (same, later.3) refl,
      )

  -- a written line is read as the line of its numbers, and the rest follows
  pub lines_from-line_text : (n : ℕ) (ns rest : List ℕ) → IsRow max ns
      → lines_from max n (pieces (line_text ns ++ rest)) ≡ plain_line n ns ∷ lines_from max (n + 1)
      (pieces rest)
  lines_from-line_text n ns rest row =
      let toks = map digits ns in
      let read = written_fits ns row.within in
      let text : line_text ns ++ rest ≡ join_with_byte 32 toks ++ 10 ∷ rest =
      append_assoc (join_with_byte 32 toks) (10 ∷ []) rest in
      let begins = BeginsWithLine-join toks rest read.0 in
      let first : first_tokens (line_text ns ++ rest) ≡ toks = ap first_tokens text ∙ begins.toks_are in
      let after : after_first_line (line_text ns ++ rest) ≡ rest = ap after_first_line text
      ∙ begins.rest_is in
      lines_from-step max n (line_text ns ++ rest)
      ∙ (λ i. put_line max n (first i) (lines_from max (n + 1) (pieces (after i))))
      ∙ put_line-row max n ns (lines_from max (n + 1) (pieces rest)) row.some
      ∙ ap (λ line. line ∷ lines_from max (n + 1) (pieces rest))
      (line_of-plain max n toks ns read.1 read.2 read.3)

  -- the lines of written lines
  pub lines_from-written : (n : ℕ) (rows : List (List ℕ)) → All (IsRow max) rows
      → lines_from max n (pieces (flat_map line_text rows)) ≡ plain_lines n rows
  lines_from-written n [] h = refl
  lines_from-written n (ns ∷ more) h =
      lines_from-line_text n ns (flat_map line_text more) (All-head (IsRow max) ns more h)
      ∙ ap (λ ls. plain_line n ns ∷ ls) (lines_from-written (n + 1) more (All-tail (IsRow max) ns more h))
