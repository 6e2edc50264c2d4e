-- A line, number by number.
use Rattle.std.proofs.Common.{◌≡◌, ℕ, ◌+◌, ◌-◌, ◌<◌, List, [], ◌∷◌, ◌++◌, map, length, get_or, take, refl, sym, ap, ◌∙◌, arith, append_assoc}
use Rattle.std.specs.List.{join_with_byte}
use Rattle.std.proofs.lemmas.List.{take_more, take_all, append-nil}
use Rattle.tdm_lines.specs.Digits.{digits}
use Rattle.tdm_lines.specs.Written.{line_text}
use Rattle.text_writer.specs.Writing.{number_then, numbers_then}

-- a number before the others
pub line-next : (n m : ℕ) (more : List ℕ) → number_then n 32 ++ line_text (m ∷ more)
    ≡ line_text (n ∷ m ∷ more)
line-next n m more = append_assoc (digits n) (32 ∷ []) (line_text (m ∷ more))
    ∙ sym (append_assoc (digits n) (32 ∷ join_with_byte 32 (map digits (m ∷ more))) (10 ∷ []))

-- a space behind each number but the last
line_parts : (front : List ℕ) (last : ℕ) → numbers_then 32 front ++ number_then last 10
    ≡ line_text (front ++ last ∷ [])
line_parts [] last = refl
line_parts (n ∷ []) last = ap (λ (b : List ℕ). b ++ number_then last 10) (append-nil (number_then n 32))
    ∙ line-next n last []
line_parts (n ∷ m ∷ front) last =
    append_assoc (number_then n 32) (numbers_then 32 (m ∷ front)) (number_then last 10)
    ∙ ap (λ (b : List ℕ). number_then n 32 ++ b) (line_parts (m ∷ front) last)
    ∙ line-next n m (front ++ last ∷ [])

-- the numbers before the last, and the last
pub line-split : (numbers : List ℕ) → 0 < length numbers → numbers_then 32 (take (length numbers - 1) numbers)
    ++ number_then (get_or numbers (length numbers - 1) 0) 10 ≡ line_text numbers
line-split numbers some =
    let last : length numbers - 1 < length numbers = omega arith in
    let whole : length numbers - 1 + 1 ≡ length numbers = omega arith in
    line_parts (take (length numbers - 1) numbers) (get_or numbers (length numbers - 1) 0)
    ∙ ap line_text (sym (take_more numbers (length numbers - 1) 0 last) ∙ ap (λ k. take k numbers) whole
    ∙ take_all (length numbers) numbers (omega arith))
