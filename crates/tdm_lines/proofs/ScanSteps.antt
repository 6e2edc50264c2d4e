-- What the loops over a text keep true.
use Rattle.std.proofs.Common.{◌≡◌, ℕ, ◌+◌, ◌-◌, ◌<◌, ◌≤◌, true, false, List, [], ◌∷◌, ◌++◌, length, take, drop, get_or, ap, sym, ◌∙◌, subst, arith, length-drop, Result}
use Rattle.std.specs.List.{list_all, slice_range}
use Rattle.std.proofs.lemmas.Grind.{common_steps}
use Rattle.std.proofs.lemmas.List.Folds.{list_all-append, drop_split}
use Rattle.std.proofs.lemmas.List.{take_more, get_or-drop}
use Rattle.tdm_lines.specs.Lines.{TokenFault}
use Rattle.tdm_lines.specs.Scan.{is_token_byte, BeginsWith, reading_of}
use Rattle.tdm_lines.proofs.TextLemmas.{BeginsWith-run, IsCut-at}

-- a token from `at` on, as far as `end`
pub record TokenSoFar (bytes : List ℕ) (at end max : ℕ) (reading : Result ℕ TokenFault) : Type 0 where
  pub from : at ≤ end
  pub within : end ≤ length bytes
  pub token_bytes : list_all is_token_byte (slice_range bytes at end) ≡ true
  pub read : reading ≡ reading_of max (slice_range bytes at end)

-- one byte more
pub slice_range-push : (bytes : List ℕ) (at end : ℕ) → at ≤ end → end < length bytes
    → slice_range bytes at (end + 1) ≡ slice_range bytes at end ++ get_or bytes end 0 ∷ []
slice_range-push bytes at end le lt =
    let n : end + 1 - at ≡ end - at + 1 = omega arith in
    let place : at + (end - at) ≡ end = omega arith in
    ap (λ k. take k (drop at bytes)) n
    ∙ take_more (drop at bytes) (end - at) 0 (omega (arith, length-drop at bytes))
    ∙ ap (λ b. take (end - at) (drop at bytes) ++ b ∷ []) (get_or-drop at bytes (end - at) 0
    ∙ ap (λ k. get_or bytes k 0) place)

pub TokenSoFar-push : (bytes : List ℕ) (at end max : ℕ) (reading next : Result ℕ TokenFault)
    → TokenSoFar bytes at end max reading
    → end < length bytes → is_token_byte (get_or bytes end 0) ≡ true
    → ((token : List ℕ) → reading ≡ reading_of max token
    → next ≡ reading_of max (token ++ get_or bytes end 0 ∷ []))
    → TokenSoFar bytes at (end + 1) max next
TokenSoFar-push bytes at end max reading next h lt byte step =
    let range = slice_range-push bytes at end h.from lt in
    record {
      from = omega (arith, h.from);
      within = omega arith;
      token_bytes = ap (list_all is_token_byte) range
          ∙ list_all-append is_token_byte (slice_range bytes at end) (get_or bytes end 0 ∷ [])
          ∙ rw (h.token_bytes, byte);
      read = step (slice_range bytes at end) h.read ∙ sym (ap (reading_of max) range);
    }

pub length-range : (bytes : List ℕ) (at end : ℕ) → at < end → end ≤ length bytes
    → 0 < length (slice_range bytes at end)
length-range bytes at end lt le = grind (arith, common_steps)

-- where no byte of a token follows, the token is whole
pub TokenSoFar-end : (bytes : List ℕ) (at end max : ℕ) (reading : Result ℕ TokenFault)
    → TokenSoFar bytes at end max reading
    → at < end → (end < length bytes → is_token_byte (get_or bytes end 0) ≡ false)
    → BeginsWith (drop at bytes) (slice_range bytes at end) (drop end bytes)
TokenSoFar-end bytes at end max reading h some cut =
    let P : List ℕ → Type 0 = λ text. BeginsWith text (slice_range bytes at end) (drop end bytes) in
    let long : 0 < length (slice_range bytes at end) = length-range bytes at end some h.within in
    subst P (sym (drop_split bytes at end h.from))
    (BeginsWith-run _ _ h.token_bytes long (IsCut-at bytes end cut))
