-- what claims and shares sum to
use Rattle.std.proofs.Common.{◌≡◌, ℕ, ◌+◌, ◌*◌, ◌/◌, ◌<◌, ◌≤◌, ◌^◌, List, [], ◌∷◌, length, get_or, ap, arith}
use Rattle.std.specs.Prelude.{All, sum, sum_by}
use Rattle.std.specs.Int.{div_ceil}
use Rattle.std.proofs.lemmas.List.Sums.{sum_by-cons, sum_by-le, sum-map, get_or-le-sum_by}
use Rattle.std.proofs.lemmas.Grind.{div_ceil_times}
use Rattle.std.proofs.lemmas.Nat.{mul-le, le-div}
use Rattle.std.proofs.Math.Nat.{div-mul-le_self, div-le_of_le-mul, le_of_mul-le-mul_right}
use Rattle.tdm_problem.specs.Value.{largest}
use Rattle.ratio_shares.specs.Shares.{least_claim, claim_in, claims_of, share_in, shares_of}
use Rattle.ratio_shares.proofs.Largest.{le-largest, largest_least}

-- quotients that round down sum to no more than the whole times the sum of what is divided
quotients-le : (f : ℕ → ℕ) (whole all : ℕ) (xs : List ℕ) → sum_by (λ x. whole * f x / all) xs * all
    ≤ whole * sum_by f xs
quotients-le f whole all [] = omega arith
quotients-le f whole all (x ∷ xs) =
    let one : whole * f x / all * all ≤ whole * f x = div-mul-le_self (whole * f x) all in
    let rest : sum_by (λ y. whole * f y / all) xs * all ≤ whole * sum_by f xs = quotients-le f whole all xs in
    let left : sum_by (λ y. whole * f y / all) (x ∷ xs) * all
    ≡ (whole * f x / all + sum_by (λ y. whole * f y / all) xs) * all =
    ap (λ (m : ℕ). m * all) (sum_by-cons (λ y. whole * f y / all) x xs) in
    let right : whole * sum_by f (x ∷ xs) ≡ whole * (f x + sum_by f xs) =
    ap (λ (m : ℕ). whole * m) (sum_by-cons f x xs) in
    omega (arith, one, rest, left, right)

-- some number claims something
pub claims-positive : (numbers : List ℕ) → 1 ≤ length numbers → 0 < claims_of numbers
claims-positive numbers some = omega (arith, get_or-le-sum_by (claim_in numbers) numbers 0 0 (omega arith))

pub shares-le : (numbers : List ℕ) (lanes : ℕ) → sum (shares_of numbers lanes) ≤ lanes * 2 ^ 64
shares-le [] lanes = omega arith
shares-le (x ∷ xs) lanes =
    let all : ℕ = claims_of (x ∷ xs) in
    let some : 0 < claims_of (x ∷ xs) = claims-positive (x ∷ xs) (omega arith) in
    let within : sum_by (share_in (x ∷ xs) lanes) (x ∷ xs) * claims_of (x ∷ xs)
    ≤ lanes * 2 ^ 64 * claims_of (x ∷ xs) =
    quotients-le (claim_in (x ∷ xs)) (lanes * 2 ^ 64) (claims_of (x ∷ xs)) (x ∷ xs) in
    omega (arith, sum-map (share_in (x ∷ xs) lanes) (x ∷ xs), le_of_mul-le-mul_right within some)

-- a claim is at most a 1024th part of 2^30 claims of any one, where there are 2^20
pub claims-le : (numbers : List ℕ) (number : ℕ) → length numbers ≤ 2 ^ 20
    → claims_of numbers ≤ 2 ^ 30 * claim_in numbers number
claims-le numbers number few =
    let parts : largest numbers ≤ div_ceil (largest numbers) 1024 * 1024 =
    (div_ceil_times (largest numbers) 1024 (omega arith)).0 in
    let each : All (λ x. claim_in numbers x ≤ 1024 * claim_in numbers number) numbers =
    λ i d inside. omega (arith, parts, le-largest numbers i d inside) in
    let bound : claims_of numbers ≤ length numbers * (1024 * claim_in numbers number) =
    sum_by-le (claim_in numbers) (1024 * claim_in numbers number) numbers each in
    omega (
      arith,
      bound,
      mul-le (length numbers) (1024 * claim_in numbers number) (2 ^ 20)
          (1024 * claim_in numbers number) few (omega arith),
    )

pub share-least : (numbers : List ℕ) (lanes number : ℕ) → 1 ≤ length numbers → length numbers ≤ 2 ^ 20
    → 1 ≤ lanes → 2 ^ 34 ≤ share_in numbers lanes number
share-least numbers lanes number some few there =
    le-div (2 ^ 34) (lanes * 2 ^ 64 * claim_in numbers number) (claims_of numbers)
    (claims-positive numbers some)
    (omega (
      arith,
      claims-le numbers number few,
      mul-le 1 (2 ^ 64 * claim_in numbers number) lanes (2 ^ 64 * claim_in numbers number) there
          (omega arith),
    ))

-- a claim is part of all claims
claim-le : (numbers : List ℕ) (i d : ℕ) → i < length numbers → claim_in numbers (get_or numbers i d)
    ≤ claims_of numbers
claim-le numbers i d inside = get_or-le-sum_by (claim_in numbers) numbers i d inside

pub share-most : (numbers : List ℕ) (lanes i d : ℕ) → i < length numbers
    → share_in numbers lanes (get_or numbers i d) ≤ lanes * 2 ^ 64
share-most numbers lanes i d inside =
    div-le_of_le-mul (claims_of numbers)
    (omega (
      arith,
      mul-le (lanes * 2 ^ 64) (claim_in numbers (get_or numbers i d)) (lanes * 2 ^ 64)
          (claims_of numbers) (omega arith) (claim-le numbers i d inside),
    ))

-- the least claim is within the range of the numbers
pub least_claim-le : (numbers : List ℕ) → All (λ number. number ≤ 2 ^ 30) numbers
    → least_claim numbers ≤ 2 ^ 30
least_claim-le numbers small =
    omega (
      arith,
      (div_ceil_times (largest numbers) 1024 (omega arith)).1,
      largest_least numbers (2 ^ 30) small,
    )
