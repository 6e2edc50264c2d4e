use Rattle.std.proofs.Common.{◌≡◌, ℕ, zero, suc, ◌+◌, ◌*◌, ◌<◌, ◌≤◌, sym, subst, ⊎_elim, arith}
use Rattle.std.specs.Prelude.{nat_le}
use Rattle.std.proofs.lemmas.Bool.{cond_both, leb-true, leb-false, cases_lt}
use Rattle.std.proofs.lemmas.Nat.{mul-le}
use Rattle.tdm_problem.specs.Roots.{IsRoot, next_root, root_of}
use Rattle.tdm_problem.specs.Laws.{RootLaw}

-- the root of the next number is the same, or the next
next : (n r : ℕ) → IsRoot n r → IsRoot (suc n) (next_root r (suc n))
next n r is =
    cond_both (nat_le ((r + 1) * (r + 1)) (suc n)) (r + 1) r (IsRoot (suc n))
    (λ reached. (leb-true ((r + 1) * (r + 1)) (suc n) reached, omega (arith, is.1)))
    (λ not_yet. (omega (arith, is.0), leb-false ((r + 1) * (r + 1)) (suc n) not_yet))

root : (n : ℕ) → IsRoot n (root_of n)
unfolding root_of
root zero = (omega arith, omega arith)
root (suc n) = next n (root_of n) (root n)

-- the square of the root is at most the number
pub root_of-square : (n : ℕ) → root_of n * root_of n ≤ n
root_of-square n = (root n).0

-- the square of the number after the root is above the number
pub root_of-next : (n : ℕ) → n < (root_of n + 1) * (root_of n + 1)
root_of-next n = (root n).1

-- a number whose square is at most n is not above one whose next square is above n
not-above : (n r s : ℕ) → r * r ≤ n → n < (s + 1) * (s + 1) → r ≤ s
not-above n r s square next =
    ⊎_elim
    (λ (below : s < r). absurd (omega (
      arith,
      square,
      next,
      mul-le (s + 1) (s + 1) r r (omega (arith, below)) (omega (arith, below)),
    )))
    (λ (fine : r ≤ s). fine)
    (cases_lt s r)

-- the root is the one number with these two bounds
pub root_of-is : (n r : ℕ) → r * r ≤ n → n < (r + 1) * (r + 1) → r ≡ root_of n
root_of-is n r square next =
    omega (
      arith,
      not-above n r (root_of n) square (root_of-next n),
      not-above n (root_of n) r (root_of-square n) next,
    )

-- the root is that number, and no other
pub root_of-exact : RootLaw
root_of-exact n r = (
  λ (bounds : IsRoot n r). root_of-is n r bounds.0 bounds.1,
  λ (is : r ≡ root_of n). subst (IsRoot n) (sym is) (root n),
)
