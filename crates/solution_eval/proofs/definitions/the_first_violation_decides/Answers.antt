use Rattle.std.proofs.Common.{◌≡◌, ℕ, zero, suc, ◌<◌, [], ◌∷◌, refl, inl, arith}
use Rattle.std.specs.Prelude.{All, Contains}
use Rattle.tdm_problem.specs.declared.solution.WireUse.{WireUse}
use Rattle.tdm_problem.specs.Routing.{Routing}
use Rattle.tdm_problem.specs.Walk.{Links}
use Rattle.tdm_problem.specs.Legal.{IsEvenRatio}
use Rattle.tdm_problem.specs.Samples.{wire, use_at, on_wire_0, pair, shared, doubled}
use Rattle.tdm_problem.proofs.SampleBoards.{walk-stays, pair-joined, one-even}
use Rattle.solution_eval.specs.Violations.{IsJoined, HasEvenRatios, AllBelow, IsFirstBadUse}
use Rattle.solution_eval.proofs.definitions.the_first_violation_decides.Goals as goal

-- ---- a net without wires

pub returns-clause-not_joined : goal.returns-clause-not_joined
returns-clause-not_joined c = record {
  there = omega arith;
  without = λ joins.
      let walk = joins 0 1 (0, omega arith, refl) (1, omega arith, refl) in
      let stays = walk-stays pair (Contains []) (λ x. x ≡ 0)
      (λ e a b there links here. absurd (omega (arith, there.1))) 0 walk.0 1 walk.1 refl in
      omega (arith, stays);
  before = λ k below. absurd (omega (arith, below));
}

-- ---- one net on a wire

one-joined : (ratio : ℕ) → AllBelow (IsJoined pair (on_wire_0 (ratio ∷ []))) 1
one-joined ratio zero there = pair-joined pair (Contains (0 ∷ [])) 0 (
  0,
  omega arith,
  refl,
) (record { wire = wire 0 1; is = refl; ends = inl (refl, refl) })
one-joined ratio (suc n) there = absurd (omega (arith, there))

one-bad : (ratio : ℕ) → ¬ IsEvenRatio ratio → IsFirstBadUse (on_wire_0 (ratio ∷ [])) 0 (use_at 0 ratio)
one-bad ratio bad = record {
  net_there = omega arith;
  lowest = record { there = (0, omega arith, refl); bad = bad; lower = none };
  earlier = λ k below. absurd (omega (arith, below));
}
  where
    none : All (λ (u : WireUse). u.wire < 0 → IsEvenRatio u.ratio) (use_at 0 ratio ∷ [])
    none k d there below = absurd (omega (arith, below))

pub returns-clause-odd : goal.returns-clause-odd
returns-clause-odd c = (one-joined 3, one-bad 3 (λ even. omega (arith, even.2)))

pub returns-clause-zero : goal.returns-clause-zero
returns-clause-zero c = (one-joined 0, one-bad 0 (λ even. omega (arith, even.1, even.2)))

pub returns-clause-joined : goal.returns-clause-joined
returns-clause-joined c first = first.without (one-joined 3 0 (omega arith))

-- ---- two bad uses, the higher wire first

two-joined : AllBelow (IsJoined doubled ((use_at 1 3 ∷ use_at 0 1 ∷ []) ∷ [])) 1
two-joined zero there = pair-joined doubled (Contains (1 ∷ 0 ∷ [])) 0 (
  1,
  omega arith,
  refl,
) (record { wire = wire 0 1; is = refl; ends = inl (refl, refl) })
two-joined (suc n) there = absurd (omega (arith, there))

no-lower : All (λ (u : WireUse). u.wire < 0 → IsEvenRatio u.ratio) (use_at 1 3 ∷ use_at 0 1 ∷ [])
no-lower k d there below = absurd (omega (arith, below))

pub returns-clause-lowest_wire : goal.returns-clause-lowest_wire
returns-clause-lowest_wire c = (
  two-joined,
  record {
    net_there = omega arith;
    lowest = record { there = (1, omega arith, refl); bad = λ even. omega (arith, even.2); lower = no-lower };
    earlier = λ k below. absurd (omega (arith, below));
  },
)

-- ---- three nets on a wire

abbrev crowded : Routing
crowded = on_wire_0 (2 ∷ 2 ∷ 4294967294 ∷ [])

shared-links : Links shared 0 0 1
shared-links = record { wire = wire 0 1; is = refl; ends = inl (refl, refl) }

all-joined : AllBelow (IsJoined shared crowded) 3
all-joined zero there = pair-joined shared (Contains (0 ∷ [])) 0 (0, omega arith, refl) shared-links
all-joined (suc zero) there = pair-joined shared (Contains (0 ∷ [])) 0 (0, omega arith, refl) shared-links
all-joined (suc (suc zero)) there = pair-joined shared (Contains (0 ∷ [])) 0 (
  0,
  omega arith,
  refl,
) shared-links
all-joined (suc (suc (suc n))) there = absurd (omega (arith, there))

all-even : AllBelow (HasEvenRatios crowded) 3
all-even zero there = one-even 2 1 (omega arith) refl
all-even (suc zero) there = one-even 2 1 (omega arith) refl
all-even (suc (suc zero)) there = one-even 4294967294 2147483647 (omega arith) refl
all-even (suc (suc (suc n))) there = absurd (omega (arith, there))

pub returns-clause-overfull : goal.returns-clause-overfull
returns-clause-overfull c = (
  all-joined,
  all-even,
  record {
    there = omega arith;
    without = λ fits. omega (arith, fits);
    before = λ k below. absurd (omega (arith, below));
  },
)
