-- What the reader's own functions say of a text from some byte on.
use Rattle.std.specs.Prelude.{ℕ, Bool, ◌≡◌, ◌==◌, ◌||◌, not, if◌then◌else◌, List, ◌∷◌, Result, Ok, Err, Option, Some, None}
use Rattle.std.specs.List.{before_first, after_first}
use Rattle.tdm_lines.specs.Tokens.{tokens, is_blank, is_number, fits, value}
use Rattle.tdm_lines.specs.Lines.{TokenFault, BadNumber, NumberTooLarge, fault_of, numbers_of}

-- a byte of a token
abbrev pub is_token_byte : ℕ → Bool
is_token_byte byte = not (byte == 10 || is_blank byte)

-- a token's number, or what is wrong with it
abbrev pub reading_of : ℕ → List ℕ → Result ℕ TokenFault
reading_of max token =
    if not (is_number token) then Err BadNumber
    else (if fits max token then Ok (value token) else Err NumberTooLarge)

-- the tokens before the first line feed
abbrev pub first_tokens : List ℕ → List (List ℕ)
first_tokens text = tokens (before_first (λ byte. byte == 10) text)

-- what follows the first line feed
abbrev pub after_first_line : List ℕ → List ℕ
after_first_line text = after_first (λ byte. byte == 10) text

-- both texts go on with the same tokens, and then with the same lines
pub record SameAhead (text later : List ℕ) : Type 0 where
  pub same_tokens : first_tokens text ≡ first_tokens later
  pub same_lines : after_first_line text ≡ after_first_line later

-- a text begins with a token, after which the later text stands
pub record BeginsWith (text token later : List ℕ) : Type 0 where
  pub first : first_tokens text ≡ token ∷ first_tokens later
  pub same_lines : after_first_line text ≡ after_first_line later

-- the fault and the numbers are those of the tokens
pub record IsReadOf (max : ℕ) (toks : List (List ℕ)) (fault : Option TokenFault)
    (numbers : List ℕ) : Type 0 where
  pub fault_is : fault ≡ fault_of max toks
  pub numbers_are : numbers ≡ numbers_of max toks

-- the worse of two faults
abbrev pub worse_of : Option TokenFault → TokenFault → TokenFault
worse_of (Some BadNumber) found = BadNumber
worse_of (Some NumberTooLarge) found = found
worse_of None found = found
