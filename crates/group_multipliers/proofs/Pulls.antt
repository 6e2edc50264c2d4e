-- what the pulls of groups are
use Rattle.std.proofs.Common.{◌≡◌, ℕ, ◌+◌, ◌-◌, ◌*◌, ◌/◌, ◌<◌, ◌≤◌, ◌^◌, List, [], ◌∷◌, ◌++◌, length, map, get_or, take, ap, sym, ◌∙◌, subst, arith}
use Rattle.std.specs.Prelude.{All}
use Rattle.std.specs.List.{zip}
use Rattle.std.proofs.lemmas.List.{take_more, length-map, get_or-map}
use Rattle.std.proofs.lemmas.Slice.Zip.{length-zip, get_or-zip}
use Rattle.std.proofs.lemmas.List.Elements.{All-map}
use Rattle.std.proofs.lemmas.Nat.{mul-le}
use Rattle.std.proofs.Math.Nat.{div-le_of_le-mul, mul-div_left}
use Rattle.tdm_problem.specs.Value.{largest}
use Rattle.group_multipliers.specs.Renewal.{pull, pulls, weight_for, renewed}
use Rattle.group_multipliers.proofs.Largest.{le-largest, largest_reached}

abbrev pull_of_pair : ℕ → ℕ × ℕ → ℕ
pull_of_pair greatest group = pull greatest group.0 group.1

pub length-pulls : (weights sums : List ℕ) → length sums ≡ length weights
    → length (pulls weights sums) ≡ length weights
length-pulls weights sums paired = omega (
  arith,
  length-map (zip weights sums) (pull_of_pair (largest sums)),
  length-zip weights sums,
)

-- the pull at a place
pub pull_at : (weights sums : List ℕ) (g : ℕ) → length sums ≡ length weights → g < length weights
    → get_or (pulls weights sums) g 0 ≡ pull (largest sums) (get_or weights g 0) (get_or sums g 0)
pull_at weights sums g paired inside =
    get_or-map (pull_of_pair (largest sums)) (zip weights sums) g (
      0,
      0,
    ) 0 (omega (arith, length-zip weights sums))
    ∙ ap (pull_of_pair (largest sums)) (get_or-zip weights sums g (0, 0) inside (omega arith))

-- the pulls with one group more
pub pulls_more : (weights sums : List ℕ) (g : ℕ) → length sums ≡ length weights → g < length weights
    → take (g + 1) (pulls weights sums) ≡ take g (pulls weights sums) ++ pull (largest sums)
    (get_or weights g 0) (get_or sums g 0) ∷ []
pulls_more weights sums g paired inside =
    take_more (pulls weights sums) g 0 (omega (arith, length-pulls weights sums paired))
    ∙ ap (λ (x : ℕ). take g (pulls weights sums) ++ x ∷ []) (pull_at weights sums g paired inside)

-- a number of that size, in units of what is no less than its factor
quotient-le : (a b most m : ℕ) → 0 < most → b ≤ most → a ≤ m → a * b / most ≤ m
quotient-le a b most m some within few = div-le_of_le-mul most (omega (arith, mul-le a b m most few within))

-- no pull is above the limit of the weights
pub pulls-le : (weights sums : List ℕ) (m : ℕ) → length sums ≡ length weights → 0 < largest sums
    → All (λ weight. weight ≤ m) weights → All (λ pull. pull ≤ m) (pulls weights sums)
pulls-le weights sums m paired some limited =
    All-map (λ pull. pull ≤ m) (pull_of_pair (largest sums)) (zip weights sums)
    (λ g d inside.
    let here : g < length weights = omega (arith, length-zip weights sums) in
    let there : g < length sums = omega arith in
    let pair : get_or (zip weights sums) g d ≡ (get_or weights g d.0, get_or sums g d.1) =
    get_or-zip weights sums g d here there in
    let bound : pull_of_pair (largest sums) (get_or weights g d.0, get_or sums g d.1) ≤ m =
    quotient-le (get_or weights g d.0) (get_or sums g d.1) (largest sums) m some
    (le-largest sums g d.1 there) (limited g d.0 here) in
    subst (λ group. pull_of_pair (largest sums) group ≤ m) (sym pair) bound)

-- some pull is at least 1
pub pull_there : (weights sums : List ℕ) → length sums ≡ length weights → 0 < largest sums
    → All (λ weight. 1 ≤ weight) weights → 0 < largest (pulls weights sums)
pull_there weights sums paired some positive =
    let most : (k : ℕ) × (k < length sums) × (get_or sums k 0 ≡ largest sums) = largest_reached sums some in
    let here : get_or (pulls weights sums) most.0 0 ≡ get_or weights most.0 0 * largest sums / largest sums =
    pull_at weights sums most.0 paired (omega (arith, most.1))
    ∙ ap (λ (x : ℕ). get_or weights most.0 0 * x / largest sums) most.2 in
    let whole : get_or weights most.0 0 * largest sums / largest sums ≡ get_or weights most.0 0 =
    mul-div_left (get_or weights most.0 0) some in
    omega (
      arith,
      here,
      whole,
      positive most.0 0 (omega (arith, most.1)),
      le-largest (pulls weights sums) most.0 0 (omega (
        arith,
        most.1,
        length-pulls weights sums paired,
      )),
    )

-- each new weight is in its range
pub weights_positive : (strongest : ℕ) (pulls : List ℕ)
    → All (λ weight. 1 ≤ weight) (map (weight_for strongest) pulls)
weights_positive strongest pulls = All-map (λ weight. 1 ≤ weight) (weight_for strongest) pulls
    (λ g d inside. omega arith)

weight-le : (pull strongest : ℕ) → 0 < strongest → pull ≤ strongest → weight_for strongest pull ≤ 2 ^ 40
weight-le pull strongest some within =
    let part : pull * (2 ^ 40 - 1) / strongest ≤ 2 ^ 40 - 1 =
    div-le_of_le-mul strongest (mul-le pull (2 ^ 40 - 1) strongest (2 ^ 40 - 1) within (omega arith)) in
    omega arith

weights_limited : (strongest : ℕ) (pulls : List ℕ) → 0 < strongest → All (λ pull. pull ≤ strongest) pulls
    → All (λ weight. weight ≤ 2 ^ 40) (map (weight_for strongest) pulls)
weights_limited strongest pulls some within =
    All-map (λ weight. weight ≤ 2 ^ 40) (weight_for strongest) pulls
    (λ g d inside. weight-le (get_or pulls g d) strongest some (within g d inside))

pub renewed_limited : (weights sums : List ℕ) → length sums ≡ length weights → 0 < largest sums
    → All (λ weight. 1 ≤ weight) weights → All (λ weight. weight ≤ 2 ^ 40) (renewed weights sums)
renewed_limited weights sums paired some positive =
    weights_limited (largest (pulls weights sums)) (pulls weights sums)
    (pull_there weights sums paired some positive) (le-largest (pulls weights sums))
