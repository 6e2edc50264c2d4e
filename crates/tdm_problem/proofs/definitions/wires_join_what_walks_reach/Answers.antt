use Rattle.std.proofs.Common.{◌≡◌, ℕ, zero, suc, ◌<◌, [], ◌∷◌, refl, inl, ⊎_elim, arith}
use Rattle.std.specs.Prelude.{Contains}
use Rattle.tdm_problem.specs.Walk.{AnyWire, IsConnectable}
use Rattle.tdm_problem.specs.Legal.{AllConnectable}
use Rattle.tdm_problem.specs.Samples.{wire, shared, split}
use Rattle.tdm_problem.proofs.Walks.{either}
use Rattle.tdm_problem.proofs.SampleBoards.{walk-stays, arms-join, end-alone, part-kept, pair-joined}
use Rattle.tdm_problem.proofs.definitions.wires_join_what_walks_reach.Goals as goal

-- which arm leads to an end of the star
arm-of : (b : ℕ) → Contains (1 ∷ 2 ∷ 3 ∷ []) b → (e : ℕ) × (e < 3) × (suc e ≡ b) × Contains (2 ∷ 0 ∷ 1 ∷ []) e
arm-of b (zero, there, is) = (0, omega arith, is, (1, omega arith, refl))
arm-of b (suc zero, there, is) = (1, omega arith, is, (2, omega arith, refl))
arm-of b (suc (suc zero), there, is) = (2, omega arith, is, (0, omega arith, refl))
arm-of b (suc (suc (suc k)), there, is) = absurd (omega (arith, there))

pub returns-clause-arms : goal.returns-clause-arms
returns-clause-arms c = arms-join (Contains (2 ∷ 0 ∷ 1 ∷ [])) (1 ∷ 2 ∷ 3 ∷ []) arm-of

-- neither of two arms is the third
not-third : (d : ℕ) → Contains (0 ∷ 1 ∷ []) d → d ≡ 2 → ⊥
not-third d there same =
    ⊎_elim
    (λ first. omega (arith, first, same))
    (λ second. omega (arith, second, same))
    (either 0 1 d there)

pub returns-clause-missing_arm : goal.returns-clause-missing_arm
returns-clause-missing_arm c joins =
    let walk = joins 3 1 (2, omega arith, refl) (0, omega arith, refl) in
    let stays = end-alone 2 (Contains (0 ∷ 1 ∷ [])) not-third walk.0 1 walk.1 in
    omega (arith, stays)

pub returns-clause-same_part : goal.returns-clause-same_part
returns-clause-same_part c =
    pair-joined split (AnyWire split) 0 (omega arith) (record {
      wire = wire 0 1;
      is = refl;
      ends = inl (refl, refl);
    })

-- the first net of the board in two parts
apart : IsConnectable split (0 ∷ 2 ∷ []) → ⊥
apart joins =
    let walk = joins 0 2 (0, omega arith, refl) (1, omega arith, refl) in
    let stays = walk-stays split (AnyWire split) (λ x. x < 2)
    (λ e a b there links here. part-kept e a b links here) 0 walk.0 2 walk.1 (omega arith) in
    omega (arith, stays)

pub returns-clause-two_parts : goal.returns-clause-two_parts
returns-clause-two_parts c joins = apart joins

pub returns-clause-all_nets : goal.returns-clause-all_nets
returns-clause-all_nets c = each
  where
    joined : IsConnectable shared (0 ∷ 1 ∷ [])
    joined = pair-joined shared (AnyWire shared) 0 (omega arith) (record {
      wire = wire 0 1;
      is = refl;
      ends = inl (refl, refl);
    })

    each : AllConnectable shared
    each zero there = joined
    each (suc zero) there = joined
    each (suc (suc zero)) there = joined
    each (suc (suc (suc n))) there = absurd (omega (arith, there))

pub returns-clause-not_all : goal.returns-clause-not_all
returns-clause-not_all c all = apart (all 0 (omega arith))
