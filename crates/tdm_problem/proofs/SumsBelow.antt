use Rattle.std.proofs.Common.{◌≡◌, ℕ, zero, suc, ◌+◌, ◌*◌, ◌<◌, ◌≤◌, cond, refl, ap, ⊎_elim, arith}
use Rattle.std.specs.Prelude.{◌==◌}
use Rattle.std.proofs.lemmas.Bool.{cases_eq, cond-true, cond-false, eq-eqb, ne_eqb}
use Rattle.tdm_problem.specs.Sums.{sum_below}

-- functions that agree below n have the same sum
pub sum_below-agree : (n : ℕ) (f g : ℕ → ℕ) → ((i : ℕ) → i < n → f i ≡ g i) → sum_below n f ≡ sum_below n g
sum_below-agree zero f g agree = refl
sum_below-agree (suc n) f g agree =
    omega (arith, sum_below-agree n f g (λ i below. agree i (omega (arith, below))), agree n (omega arith))

-- a smaller function has a smaller sum
pub sum_below-le : (n : ℕ) (f g : ℕ → ℕ) → ((i : ℕ) → i < n → f i ≤ g i) → sum_below n f ≤ sum_below n g
sum_below-le zero f g small = omega arith
sum_below-le (suc n) f g small =
    omega (arith, sum_below-le n f g (λ i below. small i (omega (arith, below))), small n (omega arith))

-- a sum of sums
pub sum_below-add : (n : ℕ) (f g : ℕ → ℕ) → sum_below n (λ i. f i + g i) ≡ sum_below n f + sum_below n g
sum_below-add zero f g = omega arith
sum_below-add (suc n) f g = omega (arith, sum_below-add n f g)

-- a common factor
pub sum_below-times : (n k : ℕ) (f : ℕ → ℕ) → sum_below n (λ i. k * f i) ≡ k * sum_below n f
sum_below-times zero k f = omega arith
sum_below-times (suc n) k f = omega (arith, sum_below-times n k f)

-- the first number apart from the others
pub sum_below-first : (n : ℕ) (f : ℕ → ℕ) → sum_below (suc n) f ≡ f 0 + sum_below n (λ i. f (suc i))
sum_below-first zero f = omega arith
sum_below-first (suc n) f = omega (arith, sum_below-first n f)

-- a sum of nothing
pub sum_below-none : (n : ℕ) (f : ℕ → ℕ) → ((i : ℕ) → i < n → f i ≡ 0) → sum_below n f ≡ 0
sum_below-none zero f none = refl
sum_below-none (suc n) f none =
    omega (arith, sum_below-none n f (λ i below. none i (omega (arith, below))), none n (omega arith))

-- what is not 0 at one number alone
pub sum_below-one : (n k : ℕ) (f : ℕ → ℕ) → k < n → sum_below n (λ i. cond (k == i) (f i) 0) ≡ f k
sum_below-one zero k f below = absurd (omega arith)
sum_below-one (suc n) k f below =
    ⊎_elim
    (λ (is : k ≡ n).
    let before : sum_below n (λ i. cond (k == i) (f i) 0) ≡ 0 =
    sum_below-none n (λ i. cond (k == i) (f i) 0)
    (λ i small. cond-false (k == i) (f i) 0 (ne_eqb k i (λ e. omega (arith, e, small, is)))) in
    omega (arith, before, cond-true (k == n) (f n) 0 (eq-eqb k n is), ap f is))
    (λ (other : k ≡ n → ⊥).
    omega (
      arith,
      sum_below-one n k f (omega (arith, below, other)),
      cond-false (k == n) (f n) 0 (ne_eqb k n other),
    ))
    (cases_eq k n)
