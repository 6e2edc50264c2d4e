-- A token that has one more byte.
use Rattle.std.proofs.Common.{◌≡◌, ℕ, ◌+◌, ◌-◌, ◌*◌, ◌<◌, ◌≤◌, true, ◌&&◌, List, [], ◌∷◌, ◌++◌, ap, ◌∙◌, arith, Ok, Err, Result}
use Rattle.std.specs.Char.{is_ascii_digit, digit_value}
use Rattle.std.proofs.lemmas.Grind.{common_steps}
use Rattle.std.proofs.lemmas.List.Folds.{list_all-append}
use Rattle.std.proofs.lemmas.Int.Digits.{digits_value_push}
use Rattle.tdm_lines.specs.Tokens.{is_number, value}
use Rattle.tdm_lines.specs.Scan.{reading_of}
use Rattle.tdm_lines.specs.Lines.{TokenFault, NumberTooLarge}

-- a digit's value is its place after '0'
pub digit_value-digit : (byte : ℕ) → is_ascii_digit byte ≡ true → digit_value byte ≡ byte - 48
digit_value-digit byte h = grind (arith, common_steps)

-- one more digit
pub value-push : (token : List ℕ) (byte : ℕ) → is_ascii_digit byte ≡ true
    → value (token ++ byte ∷ []) ≡ value token * 10 + (byte - 48)
value-push token byte h = digits_value_push 10 token byte
    ∙ ap (λ d. value token * 10 + d) (digit_value-digit byte h)

-- a token is a number with one more byte if that byte is a digit too
pub is_number-push : (token : List ℕ) (byte : ℕ) → is_number (token ++ byte ∷ [])
    ≡ (is_number token && is_ascii_digit byte)
is_number-push token byte = grind (arith, common_steps, list_all-append is_ascii_digit token (byte ∷ []))

module _ (max byte : ℕ) (token : List ℕ) (digit : is_ascii_digit byte ≡ true) where
  same : is_number (token ++ byte ∷ []) ≡ is_number token
  same = grind (arith, common_steps, is_number-push token byte, digit)

  -- a fault stays
  pub reading-push_fault : (fault : TokenFault) → reading_of max token ≡ Err fault
      → reading_of max (token ++ byte ∷ []) ≡ Err fault
  reading-push_fault fault is = grind (arith, common_steps, same, value-push token byte digit)

  -- a number goes on where it fits, and else is too large
  pub reading-push_number : (v : ℕ) (r : Result ℕ TokenFault) → reading_of max token ≡ Ok v
      → (v * 10 + (byte - 48) ≤ max → r ≡ Ok (v * 10 + (byte - 48)))
      → (max < v * 10 + (byte - 48) → r ≡ Err NumberTooLarge)
      → r ≡ reading_of max (token ++ byte ∷ [])
  reading-push_number v r is fits_still too_large = grind (
    arith,
    common_steps,
    same,
    value-push token byte digit,
  )
