-- The least even number that, times the divisor, reaches the demand.
use Rattle.std.proofs.Common.{◌≡◌, ℕ, zero, suc, ◌+◌, ◌*◌, ◌<◌, ◌≤◌, refl, subst, ⊎_elim, arith, mul-le-mul_right}
use Rattle.std.specs.Int.{div_ceil}
use Rattle.std.proofs.lemmas.Bool.{cases_lt}
use Rattle.std.proofs.lemmas.Grind.{div_ceil_times}
use Rattle.bound_cert.specs.Bound.{least_even}
use Rattle.bound_cert.specs.Laws.{IsLeastEven, LeastEvenLaw}

-- no smaller number of steps reaches the demand
fewest : (demand step k half : ℕ) → k * step < demand + step → demand ≤ half * step → k ≤ half
fewest demand step k half close reached =
    ⊎_elim
    (λ (below : half < k).
    let more : (half + 1) * step ≤ k * step = mul-le-mul_right step (omega (arith, below)) in
    absurd (omega (arith, more, close, reached)))
    (λ (fine : k ≤ half). fine)
    (cases_lt half k)

-- twice the steps of twice the divisor that reach the demand
least-of_steps : (demand d : ℕ) → IsLeastEven demand (suc d) (2 * div_ceil demand (2 * suc d))
least-of_steps demand d =
    let steps : ℕ = div_ceil demand (2 * suc d) in
    let close = div_ceil_times demand (2 * suc d) (omega arith) in
    record {
      even = (steps, refl);
      enough = omega (arith, close.0);
      least = λ half reached.
          let few : steps ≤ half = fewest demand (2 * suc d) steps half close.1 (omega (arith, reached)) in
          omega (arith, few);
    }

-- the law
pub least_even-is_least : LeastEvenLaw
least_even-is_least demand zero positive = absurd (omega arith)
least_even-is_least demand (suc d) positive = least-of_steps demand d

-- an even number that reaches the demand is not below the least one
pub least_even-le : (demand divisor half number : ℕ) → number ≡ 2 * half → demand ≤ divisor * number
    → least_even demand divisor ≤ number
least_even-le demand zero half number even reached = omega arith
least_even-le demand (suc d) half number even reached =
    let least : 2 * div_ceil demand (2 * suc d) ≤ 2 * half =
    (least-of_steps demand d).least half (subst (λ (x : ℕ). demand ≤ suc d * x) even reached) in
    omega (arith, least, even)
