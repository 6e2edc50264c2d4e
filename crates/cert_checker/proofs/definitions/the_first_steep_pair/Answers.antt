use Rattle.std.proofs.Common.{◌≡◌, ℕ, ◌<◌, List, [], ◌∷◌, refl, inl, arith, rules, subst}
use Rattle.tdm_problem.specs.Samples.{wire, shared, star}
use Rattle.bound_cert.specs.Certificate.{Cert}
use Rattle.bound_cert.specs.Samples.{star_cert, wire_cert}
use Rattle.bound_cert.specs.Valid.{IsSteep}
use Rattle.cert_checker.specs.Steep.{IsLevel}
use Rattle.cert_checker.proofs.definitions.the_first_steep_pair.Goals as goal

along_wire : IsSteep shared (wire_cert 1 3 0 4 (1 ∷ 1 ∷ 1 ∷ [])) 0 0
along_wire = record {
  a = 0;
  b = 1;
  links = record { wire = wire 0 1; is = refl; ends = inl (refl, refl) };
  more = omega arith;
}

-- the star with potentials of its own
abbrev with_potentials : List (List ℕ) → Cert
with_potentials potentials = record star_cert { potentials = potentials }

second_arm : IsSteep star (with_potentials ((0 ∷ 0 ∷ 2 ∷ 2 ∷ []) ∷ [])) 0 1
second_arm = record {
  a = 0;
  b = 2;
  links = record { wire = wire 0 2; is = refl; ends = inl (refl, refl) };
  more = omega arith;
}

first_arm : ¬ IsSteep star (with_potentials ((0 ∷ 0 ∷ 2 ∷ 2 ∷ []) ∷ [])) 0 0
first_arm = search rules

before : IsLevel star (with_potentials ((1 ∷ 0 ∷ 2 ∷ 2 ∷ []) ∷ (0 ∷ 0 ∷ 0 ∷ 2 ∷ []) ∷ [])) 0
before = search rules

third_arm : IsSteep star (with_potentials ((1 ∷ 0 ∷ 2 ∷ 2 ∷ []) ∷ (0 ∷ 0 ∷ 0 ∷ 2 ∷ []) ∷ [])) 1 2
third_arm = record {
  a = 0;
  b = 3;
  links = record { wire = wire 0 3; is = refl; ends = inl (refl, refl) };
  more = omega arith;
}

others : (e : ℕ) → e < 2 → ¬ IsSteep star (with_potentials ((1 ∷ 0 ∷ 2 ∷ 2 ∷ []) ∷ (0 ∷ 0 ∷ 0 ∷ 2 ∷ []) ∷ []))
    1 e
others = search rules

pub returns-clause-not_level : goal.returns-clause-not_level
returns-clause-not_level c level = level 0 along_wire

pub returns-clause-first : goal.returns-clause-first
returns-clause-first c = record {
  there = omega arith;
  first_wire = record { there = omega arith; steep = along_wire; earlier = λ d less. absurd (omega arith) };
  earlier = λ p less. absurd (omega arith);
}

pub returns-clause-later_wire : goal.returns-clause-later_wire
returns-clause-later_wire c = record {
  there = omega arith;
  steep = second_arm;
  earlier = λ d less. let zero_is : 0 ≡ d = omega arith in
      subst (λ (e : ℕ). ¬ IsSteep star (with_potentials ((0 ∷ 0 ∷ 2 ∷ 2 ∷ []) ∷ [])) 0 e) zero_is first_arm;
}

pub returns-clause-not_first : goal.returns-clause-not_first
returns-clause-not_first c first = first.earlier 1 (omega arith) second_arm

pub returns-clause-later_potential : goal.returns-clause-later_potential
returns-clause-later_potential c = record {
  there = omega arith;
  first_wire = record { there = omega arith; steep = third_arm; earlier = others };
  earlier = λ p less. let zero_is : 0 ≡ p = omega arith in
      subst (IsLevel star (with_potentials ((1 ∷ 0 ∷ 2 ∷ 2 ∷ []) ∷ (0 ∷ 0 ∷ 0 ∷ 2 ∷ []) ∷ []))) zero_is
      before;
}
