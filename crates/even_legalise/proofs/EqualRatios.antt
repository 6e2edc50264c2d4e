-- How small the ratios of a wire can be where all nets have the same.
use Rattle.std.proofs.Common.{◌≡◌, ℕ, ◌+◌, ◌*◌, ◌<◌, ◌≤◌, List, length, refl, arith, mul-le-mul_right, le_of_mul-le-mul_right}
use Rattle.std.specs.Prelude.{All, replicate, ◌↔◌}
use Rattle.std.specs.Int.{div_ceil}
use Rattle.std.proofs.Math.Nat.{lt_of_mul-lt-mul_right}
use Rattle.std.proofs.lemmas.Grind.{div_ceil_times}
use Rattle.std.proofs.lemmas.List.{length-replicate}
use Rattle.std.proofs.lemmas.List.Elements.{All-replicate, All-weaker}
use Rattle.tdm_problem.specs.Fit.{product, reciprocals, FitsLanes}
use Rattle.tdm_problem.specs.Legal.{IsEvenRatio}
use Rattle.tdm_problem.proofs.Fits.{product-positive, reciprocals-equal, FitsLanes-equal}
use Rattle.even_legalise.specs.Uniform.{uniform_ratio}

-- equal ratios that fit are no more than the ratio times the lanes
few-of_fit : (r lanes : ℕ) (ratios : List ℕ) → 0 < r → All (λ x. x ≡ r) ratios → FitsLanes ratios lanes
    → length ratios ≤ lanes * r
few-of_fit r lanes ratios positive all fits =
    let whole : 0 < product ratios =
    product-positive ratios (All-weaker (λ x. x ≡ r) (λ x. 0 < x) (λ x is. omega (arith, is, positive))
    ratios all) in
    let scaled : reciprocals ratios * r ≤ lanes * product ratios * r = mul-le-mul_right r fits in
    let sides : length ratios * product ratios ≤ lanes * r * product ratios =
    omega (arith, reciprocals-equal r ratios all, scaled) in
    le_of_mul-le-mul_right sides whole

-- copies of a positive ratio fit exactly where there are no more of them than the ratio times the lanes
replicate-fits : (count r lanes : ℕ) → 0 < r → FitsLanes (replicate count r) lanes ↔ (count ≤ lanes * r)
replicate-fits count r lanes positive =
    let all : All (λ x. x ≡ r) (replicate count r) = All-replicate (λ x. x ≡ r) count r refl in
    let count_is : length (replicate count r) ≡ count = length-replicate count r in (
      λ fits. omega (arith, few-of_fit r lanes (replicate count r) positive all fits, count_is),
      λ few. FitsLanes-equal r lanes (replicate count r) positive all (omega (arith, few, count_is)),
    )

-- where nets are no more than a ratio times the lanes, the nets of a lane are no more than the ratio
nets_of_lane-few : (nets lanes r : ℕ) → 0 < lanes → nets ≤ lanes * r → div_ceil nets lanes ≤ r
nets_of_lane-few nets lanes r there few =
    let above : div_ceil nets lanes * lanes < nets + lanes = (div_ceil_times nets lanes there).1 in
    let below : div_ceil nets lanes * lanes < (r + 1) * lanes = omega (arith, above, few) in
    let less : div_ceil nets lanes < r + 1 = lt_of_mul-lt-mul_right lanes below in
    omega (arith, less)

-- and the other way round
few-nets_of_lane : (nets lanes r : ℕ) → 0 < lanes → div_ceil nets lanes ≤ r → nets ≤ lanes * r
few-nets_of_lane nets lanes r there less =
    let within : nets ≤ div_ceil nets lanes * lanes = (div_ceil_times nets lanes there).0 in
    let scaled : div_ceil nets lanes * lanes ≤ r * lanes = mul-le-mul_right lanes less in
    omega (arith, within, scaled)

-- an even number that is at least q is at least q raised to an even number
raised-least : (q half : ℕ) → q ≤ 2 * half → 2 * div_ceil q 2 ≤ 2 * half
raised-least q half less =
    let above : div_ceil q 2 * 2 < q + 2 = (div_ceil_times q 2 (omega arith)).1 in
    omega (arith, above, less)

-- a number is at most itself raised to an even number
raised-within : (q : ℕ) → q ≤ 2 * div_ceil q 2
raised-within q = let within : q ≤ div_ceil q 2 * 2 = (div_ceil_times q 2 (omega arith)).0 in
    omega (arith, within)

-- nets with an even ratio fit exactly where it is no less than the uniform ratio
pub uniform-least : (nets lanes ratio : ℕ) → 0 < lanes → IsEvenRatio ratio
    → FitsLanes (replicate nets ratio) lanes ↔ (uniform_ratio nets lanes ≤ ratio)
uniform-least nets lanes ratio there even =
    let positive : 0 < ratio = omega (arith, even.1, even.2) in
    let fit = replicate-fits nets ratio lanes positive in (
      λ fits.
          let lane : div_ceil nets lanes ≤ 2 * even.0 =
          omega (arith, nets_of_lane-few nets lanes ratio there (fit.0 fits), even.2) in
          omega (arith, raised-least (div_ceil nets lanes) even.0 lane, even.2),
      λ least. fit.1 (few-nets_of_lane nets lanes ratio there
          (omega (arith, raised-within (div_ceil nets lanes), least))),
    )
