-- The tokens of one line of text: its runs of bytes that are not blank.
use Rattle.std.specs.Prelude.{ℕ, Bool, ◌==◌, ◌||◌, nat_lt, nat_le, List, length, filter}
use Rattle.std.specs.List.{slice_split, list_all}
use Rattle.std.specs.Char.{is_ascii_digit}
use Rattle.std.specs.Str.Parse.{digits_value}

-- space, tab and carriage return
abbrev pub is_blank : ℕ → Bool
is_blank byte = byte == 32 || (byte == 9 || byte == 13)

-- some byte stands there
abbrev pub is_token : List ℕ → Bool
is_token bytes = nat_lt 0 (length bytes)

-- what stands between blanks, where anything does
abbrev pub tokens : List ℕ → List (List ℕ)
tokens piece = filter is_token (slice_split is_blank piece)

-- each byte of a token, which has at least one, is a decimal digit; leading zeros are allowed
abbrev pub is_number : List ℕ → Bool
is_number token = list_all is_ascii_digit token

-- the number that a token's digits write
abbrev pub value : List ℕ → ℕ
value token = digits_value 10 token

-- a token's number is at most the largest
abbrev pub fits : ℕ → List ℕ → Bool
fits max token = nat_le (value token) max
