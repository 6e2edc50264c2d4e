use Rattle.std.proofs.Common.{◌≡◌, ℕ, zero, suc, ◌<◌, [], ◌∷◌, refl, inl, arith, rules}
use Rattle.std.specs.Prelude.{All, Contains}
use Rattle.tdm_problem.specs.Routing.{IsFor, uses_of, wires_of, ratios_of, ratios_on}
use Rattle.tdm_problem.specs.Walk.{Joins}
use Rattle.tdm_problem.specs.Fit.{FitsLanes}
use Rattle.tdm_problem.specs.Legal.{terminals_of, IsEvenRatio}
use Rattle.tdm_problem.specs.Samples.{wire, use_at, on_wire_0, pair, shared, doubled}
use Rattle.tdm_problem.proofs.SampleBoards.{walk-stays, pair-joined, one-even}
use Rattle.tdm_problem.proofs.definitions.a_solution_is_legal_or_breaks_a_rule.Goals as goal

-- ---- three nets on a wire

shared-is_for : IsFor shared (on_wire_0 (2 ∷ 4 ∷ 4 ∷ []))
shared-is_for = search rules

shared-joined : (n : ℕ) → n < 3 → Joins shared (Contains (wires_of (uses_of (on_wire_0 (2 ∷ 4 ∷ 4 ∷ [])) n)))
    (terminals_of shared n)
shared-joined zero there = pair-joined shared (Contains (0 ∷ [])) 0 (
  0,
  omega arith,
  refl,
) (record { wire = wire 0 1; is = refl; ends = inl (refl, refl) })
shared-joined (suc zero) there = pair-joined shared (Contains (0 ∷ [])) 0 (
  0,
  omega arith,
  refl,
) (record { wire = wire 0 1; is = refl; ends = inl (refl, refl) })
shared-joined (suc (suc zero)) there = pair-joined shared (Contains (0 ∷ [])) 0 (
  0,
  omega arith,
  refl,
) (record { wire = wire 0 1; is = refl; ends = inl (refl, refl) })
shared-joined (suc (suc (suc n))) there = absurd (omega (arith, there))

shared-even : All (λ uses. All IsEvenRatio (ratios_of uses)) (on_wire_0 (2 ∷ 4 ∷ 4 ∷ []))
shared-even zero d there = one-even 2 1 (omega arith) refl
shared-even (suc zero) d there = one-even 4 2 (omega arith) refl
shared-even (suc (suc zero)) d there = one-even 4 2 (omega arith) refl
shared-even (suc (suc (suc k))) d there = absurd (omega (arith, there))

shared-fits : (e : ℕ) → e < 1 → FitsLanes (ratios_on (on_wire_0 (2 ∷ 4 ∷ 4 ∷ [])) e) 1
shared-fits zero there = omega arith
shared-fits (suc e) there = absurd (omega (arith, there))

pub returns-clause-exactly_one : goal.returns-clause-exactly_one
returns-clause-exactly_one c = record {
  is_for = shared-is_for;
  joined = shared-joined;
  even = shared-even;
  fits = shared-fits;
}

-- ---- a cycle of two wires

cycle-is_for : IsFor doubled ((use_at 1 2 ∷ use_at 0 2 ∷ []) ∷ [])
cycle-is_for = search rules

cycle-joined : (n : ℕ) → n < 1
    → Joins doubled (Contains (wires_of (uses_of ((use_at 1 2 ∷ use_at 0 2 ∷ []) ∷ []) n)))
    (terminals_of doubled n)
cycle-joined zero there = pair-joined doubled (Contains (1 ∷ 0 ∷ [])) 0 (
  1,
  omega arith,
  refl,
) (record { wire = wire 0 1; is = refl; ends = inl (refl, refl) })
cycle-joined (suc n) there = absurd (omega (arith, there))

cycle-even : All (λ uses. All IsEvenRatio (ratios_of uses)) ((use_at 1 2 ∷ use_at 0 2 ∷ []) ∷ [])
cycle-even zero d there = both
  where
    both : All IsEvenRatio (2 ∷ 2 ∷ [])
    both zero r here = (1, omega arith, refl)
    both (suc zero) r here = (1, omega arith, refl)
    both (suc (suc k)) r here = absurd (omega (arith, here))
cycle-even (suc k) d there = absurd (omega (arith, there))

cycle-fits : (e : ℕ) → e < 2 → FitsLanes (ratios_on ((use_at 1 2 ∷ use_at 0 2 ∷ []) ∷ []) e) 1
cycle-fits zero there = omega arith
cycle-fits (suc zero) there = omega arith
cycle-fits (suc (suc e)) there = absurd (omega (arith, there))

pub returns-clause-cycle : goal.returns-clause-cycle
returns-clause-cycle c = record {
  is_for = cycle-is_for;
  joined = cycle-joined;
  even = cycle-even;
  fits = cycle-fits;
}

-- ---- rules broken

pub returns-clause-odd : goal.returns-clause-odd
returns-clause-odd c is =
    let even = is.even 0 [] (omega arith) 0 0 (omega arith) in
    omega (arith, even.2)

pub returns-clause-not_joined : goal.returns-clause-not_joined
returns-clause-not_joined c is =
    let walk = is.joined 0 (omega arith) 0 1 (0, omega arith, refl) (1, omega arith, refl) in
    let stays = walk-stays pair (Contains []) (λ x. x ≡ 0)
    (λ e a b there links here. absurd (omega (arith, there.1))) 0 walk.0 1 walk.1 refl in
    omega (arith, stays)

pub returns-clause-wire_twice : goal.returns-clause-wire_twice
returns-clause-wire_twice c is = is.is_for.distinct 0 [] (omega arith) 0 1 0 (omega arith) (omega arith) refl
