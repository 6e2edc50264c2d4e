use Rattle.std.proofs.Common.{◌≡◌, ℕ, ◌+◌, ◌*◌, ◌<◌, ◌≤◌, List, [], ◌∷◌, length, refl, ap, arith, add-one}
use Rattle.std.specs.Prelude.{All, replicate}
use Rattle.std.proofs.lemmas.List.{length-replicate}
use Rattle.std.proofs.lemmas.List.Elements.{All-head, All-tail, All-replicate}
use Rattle.std.proofs.lemmas.Nat.{mul-le}
use Rattle.std.proofs.Math.Nat.{le_of_mul-le-mul_right, mul-le-mul_right}
use Rattle.tdm_problem.specs.Fit.{product, reciprocals, FitsLanes}

-- the product of two positive numbers is positive
product-step : (r p : ℕ) → 0 < r → 0 < p → 0 < r * p
product-step r p r_positive p_positive = omega (arith, mul-le 1 1 r p r_positive p_positive)

-- the product of positive numbers is positive
pub product-positive : (ratios : List ℕ) → All (λ r. 0 < r) ratios → 0 < product ratios
product-positive [] all = omega arith
product-positive (r ∷ ratios) all =
    product-step r (product ratios) (All-head (λ r. 0 < r) r ratios all)
    (product-positive ratios (All-tail (λ r. 0 < r) r ratios all))

-- one equal ratio more
equal-step : (r p n k : ℕ) → n * r ≡ k * p → (p + r * n) * r ≡ (k + 1) * (r * p)
equal-step r p n k before = omega (arith, ap (λ (m : ℕ). r * m) before)

-- of equal ratios the sum of the reciprocals is their number divided by the ratio
pub reciprocals-equal : (r : ℕ) (ratios : List ℕ) → All (λ x. x ≡ r) ratios
    → reciprocals ratios * r ≡ length ratios * product ratios
reciprocals-equal r [] all = omega arith
reciprocals-equal r (x ∷ ratios) all =
    let is : x ≡ r = All-head (λ y. y ≡ r) x ratios all in
    let rest = reciprocals-equal r ratios (All-tail (λ y. y ≡ r) x ratios all) in
    let step = equal-step r (product ratios) (reciprocals ratios) (length ratios) rest in
    rw (is, ← add-one) step

-- equal ratios fit where there are no more of them than the ratio times the lanes
pub FitsLanes-equal : (r lanes : ℕ) (ratios : List ℕ) → 0 < r → All (λ x. x ≡ r) ratios
    → length ratios ≤ lanes * r → FitsLanes ratios lanes
FitsLanes-equal r lanes ratios positive all few =
    let scaled = mul-le-mul_right (product ratios) few in
    let sides : reciprocals ratios * r ≤ lanes * product ratios * r =
    omega (arith, reciprocals-equal r ratios all, scaled) in
    le_of_mul-le-mul_right sides positive

-- equal ratios fit one lane where there are no more of them than the ratio
pub FitsLanes-equal_one : (r : ℕ) (ratios : List ℕ) → 0 < r → All (λ x. x ≡ r) ratios → length ratios ≤ r
    → FitsLanes ratios 1
FitsLanes-equal_one r ratios positive all few = FitsLanes-equal r 1 ratios positive all (omega arith)

-- copies of a ratio fit one lane where there are no more of them than the ratio
pub FitsLanes-replicate : (count r : ℕ) → 0 < r → count ≤ r → FitsLanes (replicate count r) 1
FitsLanes-replicate count r positive few =
    FitsLanes-equal_one r (replicate count r) positive (All-replicate (λ x. x ≡ r) count r refl)
    (omega (arith, length-replicate count r))
