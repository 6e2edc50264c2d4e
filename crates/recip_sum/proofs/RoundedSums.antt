-- The sum of reciprocals lies between the sum of them rounded down and the sum of them rounded up.
use Rattle.std.proofs.Common.{◌≡◌, ℕ, ◌+◌, ◌-◌, ◌*◌, ◌/◌, ◌%◌, ◌^◌, ◌<◌, ◌≤◌, List, [], ◌∷◌, All, length, arith, sym, div-add-mod'}
use Rattle.std.proofs.Math.Nat.{le_of_mul-le-mul_right, div-le_self, div-mul-le_self, div-eq_of_lt-le}
use Rattle.std.proofs.lemmas.Nat.{mul-le, le-div, mod_below}
use Rattle.std.proofs.lemmas.List.Sums.{sum_by-cons}
use Rattle.std.proofs.lemmas.List.Elements.{All-head, All-tail}
use Rattle.tdm_problem.specs.Fit.{product, reciprocals, FitsLanes}
use Rattle.tdm_problem.proofs.Fits.{product-positive}
use Rattle.recip_sum.specs.Rounded.{floor_of, floor_sum, ceiling_of, ceiling_sum}

-- a ratio times its reciprocal rounded down is at most 1
floor_of-le : (r : ℕ) → floor_of r * r ≤ 2 ^ 64
floor_of-le r = let e = div-add-mod' (2 ^ 64) r in omega arith

-- a ratio times its reciprocal rounded up is at least 1
ceiling_of-ge : (r : ℕ) → 0 < r → 2 ^ 64 ≤ ceiling_of r * r
ceiling_of-ge r positive =
    let e = div-add-mod' (2 ^ 64 - 1) r in
    let m = mod_below (2 ^ 64 - 1) r positive in
    omega arith

-- one ratio more, in lists with product p, sum of reciprocals n and rounded sum s
one_more_below : (w r f s p n : ℕ) → f * r ≤ w → s * p ≤ w * n → (f + s) * (r * p) ≤ w * (p + r * n)
one_more_below w r f s p n here rest =
    let h = mul-le (f * r) p w p here (omega arith) in
    let t = mul-le r (s * p) r (w * n) (omega arith) rest in
    omega arith

one_more_above : (w r f s p n : ℕ) → w ≤ f * r → w * n ≤ s * p → w * (p + r * n) ≤ (f + s) * (r * p)
one_more_above w r f s p n here rest =
    let h = mul-le w p (f * r) p here (omega arith) in
    let t = mul-le r (w * n) r (s * p) (omega arith) rest in
    omega arith

floors-below : (rs : List ℕ) → floor_sum rs * product rs ≤ 2 ^ 64 * reciprocals rs
floors-below [] = omega arith
floors-below (r ∷ rs) =
    rw (sum_by-cons floor_of r rs) (one_more_below (2 ^ 64) r (floor_of r) (floor_sum rs) (product rs)
    (reciprocals rs) (floor_of-le r) (floors-below rs))

ceilings-above : (rs : List ℕ) → All (λ r. 0 < r) rs → 2 ^ 64 * reciprocals rs ≤ ceiling_sum rs * product rs
ceilings-above [] positive = omega arith
ceilings-above (r ∷ rs) positive =
    rw (sum_by-cons ceiling_of r rs) (one_more_above (2 ^ 64) r (ceiling_of r) (ceiling_sum rs) (product rs)
    (reciprocals rs) (ceiling_of-ge r (All-head (λ r. 0 < r) r rs positive))
    (ceilings-above rs (All-tail (λ r. 0 < r) r rs positive)))

-- reciprocals that, rounded up, sum to at most the lanes fit
pub fits_from_ceilings : (rs : List ℕ) (lanes : ℕ) → All (λ r. 0 < r) rs → ceiling_sum rs ≤ lanes * 2 ^ 64
    → FitsLanes rs lanes
fits_from_ceilings rs lanes positive most =
    let above = ceilings-above rs positive in
    let scaled = mul-le (ceiling_sum rs) (product rs) (lanes * 2 ^ 64) (product rs) most (omega arith) in
    let sides : reciprocals rs * 2 ^ 64 ≤ lanes * product rs * 2 ^ 64 = omega arith in
    le_of_mul-le-mul_right sides (omega arith)

-- rounded up a reciprocal is at most one more than rounded down
ceiling_of-le : (r : ℕ) → 0 < r → ceiling_of r ≤ floor_of r + 1
ceiling_of-le r positive = let h =
    le-div ((2 ^ 64 - 1) / r) (2 ^ 64) r positive (omega (arith, div-mul-le_self (2 ^ 64 - 1) r)) in
    omega arith

pub ceiling_sum-le : (rs : List ℕ) → All (λ r. 0 < r) rs → ceiling_sum rs ≤ floor_sum rs + length rs
ceiling_sum-le [] positive = omega arith
ceiling_sum-le (r ∷ rs) positive =
    let here = ceiling_of-le r (All-head (λ r. 0 < r) r rs positive) in
    let rest = ceiling_sum-le rs (All-tail (λ r. 0 < r) r rs positive) in
    omega (arith, sum_by-cons ceiling_of r rs, sum_by-cons floor_of r rs)

-- reciprocals that sum to at most the lanes with one unit more for each, rounded down, fit
pub fits_from_floors : (rs : List ℕ) (lanes : ℕ) → All (λ r. 0 < r) rs
    → floor_sum rs + length rs ≤ lanes * 2 ^ 64 → FitsLanes rs lanes
fits_from_floors rs lanes positive most =
    fits_from_ceilings rs lanes positive (omega (arith, ceiling_sum-le rs positive))

-- reciprocals that, rounded down, sum to more than the lanes do not fit
pub floors-fit : (rs : List ℕ) (lanes : ℕ) → All (λ r. 0 < r) rs → FitsLanes rs lanes
    → floor_sum rs ≤ lanes * 2 ^ 64
floors-fit rs lanes positive fits =
    let below = floors-below rs in
    let sides : floor_sum rs * product rs ≤ lanes * 2 ^ 64 * product rs = omega arith in
    le_of_mul-le-mul_right sides (product-positive rs positive)

-- 2^64 / r from the quotient and the remainder of 2^64 - 1 by r
pub floor_of-next : (r q m : ℕ) → q ≡ (2 ^ 64 - 1) / r → m ≡ (2 ^ 64 - 1) % r → 0 < r → m + 1 ≡ r
    → q + 1 ≡ floor_of r
floor_of-next r q m quotient rest positive last =
    let e : q * r + m ≡ 2 ^ 64 - 1 = rw (quotient, rest) (div-add-mod' (2 ^ 64 - 1) r) in
    sym (div-eq_of_lt-le {k = q + 1} r {m = 2 ^ 64} (omega arith) (omega arith))

pub floor_of-same : (r q m : ℕ) → q ≡ (2 ^ 64 - 1) / r → m ≡ (2 ^ 64 - 1) % r → 0 < r → m + 1 < r
    → q ≡ floor_of r
floor_of-same r q m quotient rest positive more =
    let e : q * r + m ≡ 2 ^ 64 - 1 = rw (quotient, rest) (div-add-mod' (2 ^ 64 - 1) r) in
    sym (div-eq_of_lt-le {k = q} r {m = 2 ^ 64} (omega arith) (omega arith))

-- no reciprocal is above 1
pub floor_sum-most : (rs : List ℕ) → floor_sum rs ≤ length rs * 2 ^ 64
floor_sum-most [] = omega arith
floor_sum-most (r ∷ rs) = omega (arith, sum_by-cons floor_of r rs, div-le_self (2 ^ 64) r, floor_sum-most rs)
