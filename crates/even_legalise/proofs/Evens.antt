-- the even ratio for a share
use Rattle.std.proofs.Common.{◌≡◌, ℕ, suc, ◌+◌, ◌*◌, ◌/◌, ◌<◌, ◌≤◌, ◌^◌, ap, ◌∙◌, refl, arith}
use Rattle.std.specs.Int.{div_ceil}
use Rattle.std.proofs.lemmas.Grind.{div_ceil_times}
use Rattle.std.proofs.lemmas.Nat.{mul-le}
use Rattle.std.proofs.Math.Nat.{div-mul-le_self, lt-mul-div-succ, lt_of_mul-lt-mul_right, le_of_mul-le-mul_right}
use Rattle.tdm_problem.specs.Legal.{IsEvenRatio}
use Rattle.ratio_shares.specs.Shares.{share_for}
use Rattle.even_legalise.specs.Shared.{even_ratio, IsLeastEven}

-- the quotient that is rounded up is the one number whose product reaches it, and that of the number before
-- does not
div_ceil_is : (m k q : ℕ) → 0 < k → m ≤ suc q * k → q * k < m → div_ceil m k ≡ suc q
div_ceil_is m k q positive reaches before =
    let whole : (m ≤ div_ceil m k * k) × (div_ceil m k * k < m + k) = div_ceil_times m k positive in
    let above : q < div_ceil m k = lt_of_mul-lt-mul_right k (omega (arith, whole.0, before)) in
    let within : div_ceil m k < suc (suc q) = lt_of_mul-lt-mul_right k (omega (arith, whole.1, reaches)) in
    omega arith

-- half of the ratio reaches half a lane
half-reaches : (share : ℕ) → 0 < share → 2 ^ 63 ≤ div_ceil (2 ^ 63) share * share
half-reaches share positive = (div_ceil_times (2 ^ 63) share positive).0

pub even_ratio-enough : (share : ℕ) → 0 < share → 2 ^ 64 ≤ even_ratio share * share
even_ratio-enough share positive = omega (arith, half-reaches share positive)

pub even_ratio-even : (share : ℕ) → 0 < share → IsEvenRatio (even_ratio share)
even_ratio-even share positive =
    (div_ceil (2 ^ 63) share, lt_of_mul-lt-mul_right share (omega (arith, half-reaches share positive)), refl)

pub even_ratio-is_least : (share : ℕ) → 0 < share → IsLeastEven share (even_ratio share)
even_ratio-is_least share positive = record {
  even = even_ratio-even share positive;
  enough = even_ratio-enough share positive;
  least = λ other even enough.
      let twice : other * share ≡ 2 * even.0 * share = ap (λ (x : ℕ). x * share) even.2 in
      let above : div_ceil (2 ^ 63) share < suc even.0 =
      lt_of_mul-lt-mul_right share (omega (
        arith,
        twice,
        enough,
        (div_ceil_times (2 ^ 63) share positive).1,
      )) in
      omega (arith, even.2, above);
}

-- the ratio of a share of at least 2^34 units
pub even_ratio-le : (share : ℕ) → 2 ^ 34 ≤ share → even_ratio share ≤ 2 ^ 30
even_ratio-le share least =
    let above : div_ceil (2 ^ 63) share < suc (2 ^ 29) =
    lt_of_mul-lt-mul_right share (omega (arith, (div_ceil_times (2 ^ 63) share (omega arith)).1)) in
    omega arith

-- a share of at least half a lane has ratio 2
pub even_ratio-two : (share : ℕ) → 2 ^ 63 ≤ share → even_ratio share ≡ 2
even_ratio-two share least =
    ap (λ (q : ℕ). 2 * q) (div_ceil_is (2 ^ 63) share 0 (omega arith) (omega arith) (omega arith))

-- with one unit more the share with all claims is above the claim
above_quotient : (claims claim : ℕ) → 0 < claims → 2 ^ 64 * claim < (share_for claims 1 claim + 1) * claims
above_quotient claims claim some = omega (arith, lt-mul-div-succ (1 * 2 ^ 64 * claim) some)

share-reaches : (claims claim half share : ℕ) → 0 < claims → 2 ^ 64 * claim < (share + 1) * claims
    → claims < 2 * half * claim → half * claims ≤ 2 ^ 63 → 2 ^ 63 ≤ half * share
share-reaches claims claim half share some above after short =
    let times : half * (2 ^ 64 * claim + 1) ≤ half * ((share + 1) * claims) =
    mul-le half (2 ^ 64 * claim + 1) half ((share + 1) * claims) (omega arith) (omega arith) in
    let product : 2 ^ 63 * claims ≤ half * share * claims = omega (arith, times, after, short) in
    le_of_mul-le-mul_right product some

share-short : (claims claim h share : ℕ) → share * claims ≤ 1 * 2 ^ 64 * claim → 2 * h * claim < claims
    → h * share < 2 ^ 63
share-short claims claim h share within before =
    let times : h * (share * claims) ≤ h * (1 * 2 ^ 64 * claim) =
    mul-le h (share * claims) h (1 * 2 ^ 64 * claim) (omega arith) within in
    lt_of_mul-lt-mul_right claims (omega (arith, times, before))

-- the claims are between twice the half of the quotient and the next even number, times the part
pub half_within : (claims part : ℕ) → 2 * (claims / part / 2) * part ≤ claims
half_within claims part =
    let whole : claims / part * part ≤ claims = div-mul-le_self claims part in
    let twice : claims / part / 2 * 2 ≤ claims / part = div-mul-le_self (claims / part) 2 in
    omega (
      arith,
      whole,
      mul-le (2 * (claims / part / 2)) part (claims / part) part (omega arith)
          (omega arith),
    )

pub half-above : (claims part : ℕ) → 1 ≤ part → claims < 2 * (claims / part / 2 + 1) * part
half-above claims part some =
    let next : claims < part * (claims / part + 1) = lt-mul-div-succ claims some in
    let twice : claims / part < 2 * (claims / part / 2 + 1) = lt-mul-div-succ (claims / part) (omega arith) in
    omega (
      arith,
      next,
      mul-le (claims / part + 1) part (2 * (claims / part / 2 + 1)) part (omega arith)
          (omega arith),
    )

-- the ratio by a division of the claims alone, where h is less by one than its half
pub ratio_by_claims : (claims claim h : ℕ) → 0 < claims → 0 < share_for claims 1 claim
    → 2 * h * claim < claims → claims < 2 * (h + 1) * claim → (h + 1) * claims ≤ 2 ^ 63
    → even_ratio (share_for claims 1 claim) ≡ 2 * (h + 1)
ratio_by_claims claims claim h some least before after short =
    let next : suc h ≡ h + 1 = omega arith in
    let reaches : 2 ^ 63 ≤ suc h * share_for claims 1 claim =
    rw next (share-reaches claims claim (h + 1) (share_for claims 1 claim) some
    (above_quotient claims claim some) after short) in
    ap (λ (q : ℕ). 2 * q)
    (div_ceil_is (2 ^ 63) (share_for claims 1 claim) h least reaches
    (share-short claims claim h (share_for claims 1 claim) (div-mul-le_self (1 * 2 ^ 64 * claim) claims)
    before)
    ∙ next)
