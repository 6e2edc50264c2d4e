use Rattle.std.specs.Prelude.{ℕ, ◌+◌, ◌*◌, ◌/◌, ◌%◌, ◌<◌, ◌≤◌, ◌^◌, List, [], ◌∷◌, map, sum_by}
use Rattle.tdm_problem.specs.Fit.{product}
use Rattle.recip_sum.specs.declared.long_division.Term.{Term}

-- the ratio is a positive `u32`, and less than one unit is left
pub record IsTerm (t : Term) : Type 0 where
  pub positive : 0 < t.ratio
  pub bound : t.ratio < 2 ^ 32
  pub rest : t.remainder ≤ t.ratio

-- the ratios, in order
abbrev pub ratios_of : List Term → List ℕ
ratios_of = map (λ t. t.ratio)

-- how many items there are in all
abbrev pub item_count : List Term → ℕ
item_count = sum_by (λ t. t.count)

-- the sum of count * remainder / ratio over all terms, times the product of all ratios
abbrev pub numerator : List Term → ℕ
numerator [] = 0
numerator (t ∷ ts) = t.count * t.remainder * product (ratios_of ts) + t.ratio * numerator ts

-- the next digit of remainder / ratio
abbrev pub digit_of : Term → ℕ
digit_of t = t.remainder * 2 ^ 32 / t.ratio

-- the digits of all items
abbrev pub digits_sum : List Term → ℕ
digits_sum = sum_by (λ t. t.count * digit_of t)

-- the term after that digit
abbrev pub after_digit : Term → Term
after_digit t = record t { remainder = t.remainder * 2 ^ 32 % t.ratio }

-- the term of all items of a ratio, of whose reciprocals no digit was taken yet
abbrev pub start_term : ℕ × ℕ → Term
start_term e = record { ratio = e.0; count = e.1; remainder = 1 }
