use Rattle.std.proofs.Common.{◌≡◌, ◌≢◌, ℕ, zero, suc, ◌<◌, [], ◌∷◌, refl, inl, arith}
use Rattle.std.specs.Prelude.{Contains}
use Rattle.tdm_problem.specs.Walk.{Joins}
use Rattle.tdm_problem.specs.Samples.{wire, star, doubled}
use Rattle.tdm_problem.proofs.SampleBoards.{arms-join, two-ends-joined, end-alone, pair-joined}
use Rattle.tdm_problem.proofs.definitions.a_tree_without_a_spare_wire_is_minimal.Goals as goal

-- the star's wires but one
abbrev Without : ℕ → ℕ → Type 0
Without e d = Contains (0 ∷ 1 ∷ 2 ∷ []) d × (d ≢ e)

-- which arm leads to an end of the star
arm-of : (b : ℕ) → Contains (1 ∷ 2 ∷ 3 ∷ []) b → (e : ℕ) × (e < 3) × (suc e ≡ b) × Contains (0 ∷ 1 ∷ 2 ∷ []) e
arm-of b (zero, there, is) = (0, omega arith, is, (0, omega arith, refl))
arm-of b (suc zero, there, is) = (1, omega arith, is, (1, omega arith, refl))
arm-of b (suc (suc zero), there, is) = (2, omega arith, is, (2, omega arith, refl))
arm-of b (suc (suc (suc k)), there, is) = absurd (omega (arith, there))

-- a walk from the end of an arm that is gone leads nowhere
cut : (e b : ℕ) → Contains (1 ∷ 2 ∷ 3 ∷ []) (suc e) → Contains (1 ∷ 2 ∷ 3 ∷ []) b
    → Joins star (Without e) (1 ∷ 2 ∷ 3 ∷ []) → b ≡ suc e
cut e b from to joins =
    let walk = joins (suc e) b from to in
    end-alone e (Without e) (λ d left. left.1) walk.0 b walk.1

needs-each : (e : ℕ) → Contains (0 ∷ 1 ∷ 2 ∷ []) e → ¬ Joins star (Without e) (1 ∷ 2 ∷ 3 ∷ [])
needs-each e (zero, there, is) joins =
    let same = cut e 2 (0, omega arith, omega (arith, is)) (1, omega arith, refl) joins in
    omega (arith, same, is)
needs-each e (suc zero, there, is) joins =
    let same = cut e 1 (1, omega arith, omega (arith, is)) (0, omega arith, refl) joins in
    omega (arith, same, is)
needs-each e (suc (suc zero), there, is) joins =
    let same = cut e 1 (2, omega arith, omega (arith, is)) (0, omega arith, refl) joins in
    omega (arith, same, is)
needs-each e (suc (suc (suc k)), there, is) joins = omega (arith, there)

pub returns-clause-arms : goal.returns-clause-arms
returns-clause-arms c = record {
  joins = arms-join (Contains (0 ∷ 1 ∷ 2 ∷ [])) (1 ∷ 2 ∷ 3 ∷ []) arm-of;
  needs = needs-each;
}

pub returns-clause-dangling : goal.returns-clause-dangling
returns-clause-dangling c tree = tree.needs 2 (2, omega arith, refl) two-ends-joined

pub returns-clause-cycle : goal.returns-clause-cycle
returns-clause-cycle c tree =
    tree.needs 1 (1, omega arith, refl)
    (pair-joined doubled (λ d. Contains (0 ∷ 1 ∷ []) d × (d ≢ 1)) 0 (
      (0, omega arith, refl),
      λ same. omega (arith, same),
    )
    (record { wire = wire 0 1; is = refl; ends = inl (refl, refl) }))
