use Rattle.std.proofs.Common.{◌≡◌, ℕ, zero, suc, ◌≤◌, [], ◌∷◌, refl, ap, arith}
use Rattle.std.specs.Prelude.{slice_index}
use Rattle.tdm_problem.specs.Routing.{uses_of, wires_of}
use Rattle.tdm_problem.specs.Samples.{on_wire_0}
use Rattle.tdm_problem.specs.Tight.{ratio_at}
use Rattle.worst_refine.proofs.definitions.lowered_ratios_stay_on_their_wires.Goals as goal

same : (n : ℕ) → wires_of (uses_of (on_wire_0 (2 ∷ 4 ∷ [])) n) ≡ wires_of (uses_of (on_wire_0 (4 ∷ 4 ∷ [])) n)
same zero = refl
same (suc n) = refl

below : (n place : ℕ) → ratio_at (on_wire_0 (2 ∷ 4 ∷ [])) n place ≤ ratio_at (on_wire_0 (4 ∷ 4 ∷ [])) n place
below zero zero = omega arith
below zero (suc place) = omega arith
below (suc n) place = omega arith

pub returns-clause-lowered : goal.returns-clause-lowered
returns-clause-lowered c = record { nets = refl; wires = same; ratios = below }

pub returns-clause-raised : goal.returns-clause-raised
returns-clause-raised c is = omega (arith, is.ratios 1 0)

pub returns-clause-other_wire : goal.returns-clause-other_wire
returns-clause-other_wire c is = omega (arith, ap (λ ws. slice_index ws 0) (is.wires 0))

pub returns-clause-net_missing : goal.returns-clause-net_missing
returns-clause-net_missing c is = omega (arith, is.nets)
