-- What a turn does to the sum that the terms stand for.
use Rattle.std.proofs.Common.{◌≡◌, ℕ, ◌+◌, ◌*◌, ◌%◌, ◌^◌, ◌<◌, ◌≤◌, List, [], ◌∷◌, All, length, map, arith, refl, sym, ap, lit≤, mul-pos, pow-suc, div-add-mod'}
use Rattle.std.proofs.lemmas.Nat.{mul-le, mod_below}
use Rattle.std.proofs.lemmas.List.Sums.{sum_by-cons}
use Rattle.std.proofs.lemmas.List.Elements.{All-tail, All-cons, All-nil}
use Rattle.tdm_problem.specs.Fit.{product}
use Rattle.recip_sum.specs.declared.long_division.Term.{Term}
use Rattle.recip_sum.specs.LongDivision.{after_digit, digit_of, digits_sum, item_count, numerator, ratios_of, IsTerm}

head : (t : Term) (ts : List Term) → All IsTerm (t ∷ ts) → IsTerm t
head t ts h = h 0 t (omega arith)

pub ratios_of-after : (ts : List Term) → ratios_of (map after_digit ts) ≡ ratios_of ts
ratios_of-after [] = refl
ratios_of-after (t ∷ ts) = ap (λ rs. t.ratio ∷ rs) (ratios_of-after ts)

pub item_count-after : (ts : List Term) → item_count (map after_digit ts) ≡ item_count ts
item_count-after [] = refl
item_count-after (t ∷ ts) =
    omega (
      arith,
      item_count-after ts,
      sum_by-cons (λ (t : Term). t.count) t ts,
      sum_by-cons (λ (t : Term). t.count) (after_digit t) (map after_digit ts),
    )

pub IsTerm-after : (ts : List Term) → All IsTerm ts → All IsTerm (map after_digit ts)
IsTerm-after [] h = All-nil IsTerm
IsTerm-after (t ∷ ts) h =
    let here = head t ts h in
    let below = mod_below (t.remainder * 2 ^ 32) t.ratio here.positive in
    All-cons IsTerm (after_digit t) (map after_digit ts) record {
      positive = here.positive;
      bound = here.bound;
      rest = omega arith;
    } (IsTerm-after ts (All-tail IsTerm t ts h))

pub product-positive : (ts : List Term) → All IsTerm ts → 0 < product (ratios_of ts)
product-positive [] h = omega arith
product-positive (t ∷ ts) h = mul-pos (head t ts h).positive (product-positive ts (All-tail IsTerm t ts h))

-- no product of ratios is above the power of the base that has as many digits as there are terms
pub product-le : (ts : List Term) → All IsTerm ts → product (ratios_of ts) ≤ (2 ^ 32) ^ length ts
product-le [] h = lit≤ tt
product-le (t ∷ ts) h =
    let rest = product-le ts (All-tail IsTerm t ts h) in
    let bound = (head t ts h).bound in
    let p = mul-le t.ratio (product (ratios_of ts)) (2 ^ 32) ((2 ^ 32) ^ length ts) (omega arith) rest in
    omega (arith, pow-suc (2 ^ 32) (length ts))

-- a term is at most its count
pub numerator-le : (ts : List Term) → All IsTerm ts → numerator ts ≤ item_count ts * product (ratios_of ts)
numerator-le [] h = omega arith
numerator-le (t ∷ ts) h =
    let rest = mul-le t.ratio (numerator ts) t.ratio (item_count ts * product (ratios_of ts)) (omega arith)
    (numerator-le ts (All-tail IsTerm t ts h)) in
    let most : t.count * t.remainder ≤ t.count * t.ratio =
    mul-le t.count t.remainder t.count t.ratio (omega arith) (head t ts h).rest in
    let here = mul-le (t.count * t.remainder) (product (ratios_of ts)) (t.count * t.ratio)
    (product (ratios_of ts)) most (omega arith) in
    let sum : numerator (t ∷ ts) ≤ (t.count + item_count ts) * (t.ratio * product (ratios_of ts)) =
    omega arith in
    rw (sum_by-cons (λ (t : Term). t.count) t ts) sum

-- one term more, with quotient q and remainder m of its division
one_more_numerator : (b k r rem q m p n d n' : ℕ) → rem * b ≡ q * r + m → n * b ≡ d * p + n'
    → (k * rem * p + r * n) * b ≡ (k * q + d) * (r * p) + (k * m * p + r * n')
one_more_numerator b k r rem q m p n d n' division rest =
    let here = ap (λ x. k * p * x) division in
    let there = ap (λ x. r * x) rest in
    omega arith

pub numerator-after : (ts : List Term) → numerator ts * 2 ^ 32 ≡ digits_sum ts * product (ratios_of ts)
    + numerator (map after_digit ts)
numerator-after [] = omega arith
numerator-after (t ∷ ts) =
    let e = one_more_numerator (2 ^ 32) t.count t.ratio t.remainder (digit_of t)
    (t.remainder * 2 ^ 32 % t.ratio) (product (ratios_of ts)) (numerator ts) (digits_sum ts)
    (numerator (map after_digit ts)) (sym (div-add-mod' (t.remainder * 2 ^ 32) t.ratio))
    (numerator-after ts) in
    rw (sum_by-cons (λ (t : Term). t.count * digit_of t) t ts, ratios_of-after ts) e
