-- The depths by the roots of the weights, summed one after another.
use Rattle.std.proofs.Common.{◌≡◌, ℕ, ◌+◌, ◌*◌, ◌^◌, ◌<◌, ◌≤◌, List, length, refl, ap, arith, add-one}
use Rattle.std.specs.Prelude.{All, slice_index}
use Rattle.std.proofs.lemmas.Nat.{mul-le}
use Rattle.tdm_problem.specs.Limits.{most_nets, most_fpgas}
use Rattle.tdm_problem.specs.Sums.{sum_below}
use Rattle.tdm_problem.specs.Roots.{root_of}
use Rattle.bound_cert.specs.Limits.{uniform_weight}

-- the depth of net n, by the root of its weight
abbrev pub rooted : List ℕ → List ℕ → ℕ → ℕ
rooted holders depths n = root_of (uniform_weight * slice_index holders n) * slice_index depths n

-- the sum over the nets before net n, which is no more than so many times the largest
pub record IsRootedBelow (holders depths : List ℕ) (n total : ℕ) : Type 0 where
  pub total_is : total ≡ sum_below n (rooted holders depths)
  pub within : (most : ℕ) → All (λ h. h ≤ most) depths → total ≤ n * (uniform_weight * most)

pub rooted_none : (holders depths : List ℕ) → IsRootedBelow holders depths 0 0
rooted_none holders depths = record { total_is = refl; within = λ most small. omega arith }

pub rooted_more : (holders depths : List ℕ) (n total next : ℕ) → n < length depths
    → IsRootedBelow holders depths n total → next ≡ rooted holders depths n
    → next ≤ uniform_weight * slice_index depths n → IsRootedBelow holders depths (n + 1) (total + next)
rooted_more holders depths n total next there so_far is small = record {
  total_is = (let step : sum_below (n + 1) (rooted holders depths) ≡ sum_below n (rooted holders depths)
      + rooted holders depths n = ap (λ (m : ℕ). sum_below m (rooted holders depths)) (add-one n) in
      omega (arith, step, so_far.total_is));
  within = λ most within. omega (arith, so_far.within most within, within n 0 there);
}

-- the sums fit their type
pub rooted_fits : (holders depths : List ℕ) (n total next : ℕ) → n < length depths → length depths ≤ most_nets
    → All (λ h. h ≤ most_fpgas) depths → IsRootedBelow holders depths n total
    → next ≤ uniform_weight * slice_index depths n → total + next < 2 ^ 64
rooted_fits holders depths n total next there few small so_far next_small =
    omega (arith, so_far.within most_fpgas small, small n 0 there)

-- all of them together
pub rooted_within : (holders depths : List ℕ) (n total most : ℕ) → n ≤ most_nets
    → IsRootedBelow holders depths n total → All (λ h. h ≤ most) depths → total ≤ 2 ^ 40 * most
rooted_within holders depths n total most few all small =
    omega (
      arith,
      all.within most small,
      mul-le n (uniform_weight * most) most_nets (uniform_weight * most) few (omega arith),
    )
