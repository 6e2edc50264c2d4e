use Rattle.std.proofs.Common.{◌≡◌, ◌≤◌, [], ◌∷◌, refl, inr, arith, rules}
use Rattle.tdm_problem.specs.Roots.{root_of}
use Rattle.tdm_problem.specs.Walk.{Links}
use Rattle.tdm_problem.specs.Samples.{wire, pair, shared, star}
use Rattle.bound_cert.specs.Samples.{star_cert, wire_cert}
use Rattle.bound_cert.specs.Valid.{IsValid}
use Rattle.bound_cert.proofs.OneBound.{one_bound, chosen_bound}
use Rattle.cert_checker.proofs.definitions.right_answers.Goals as goal

back : Links pair 0 1 0
back = record { wire = wire 0 1; is = refl; ends = inr (refl, refl) }

gentle : IsValid shared (wire_cert 1 3 0 3 (1 ∷ 1 ∷ 1 ∷ []))
gentle = search rules

pub returns-clause-accepted : goal.returns-clause-accepted
unfolding root_of
returns-clause-accepted c = (gentle, chosen_bound shared (wire_cert 1 3 0 3 (1 ∷ 1 ∷ 1 ∷ [])) refl)

pub returns-clause-hop : goal.returns-clause-hop
returns-clause-hop c = (search rules, chosen_bound star star_cert refl)

pub returns-clause-other_bound : goal.returns-clause-other_bound
returns-clause-other_bound c accepted =
    let same : 2 ≡ 4 = one_bound star star_cert 2 4 accepted.1 (chosen_bound star star_cert refl) in
    omega (arith, same)

pub returns-clause-rejected : goal.returns-clause-rejected
returns-clause-rejected c = record {
  there = omega arith;
  first_wire = record {
    there = omega arith;
    steep = record { a = 1; b = 0; links = back; more = omega arith };
    earlier = λ d less. absurd (omega arith);
  };
  earlier = λ p less. absurd (omega arith);
}

pub returns-clause-not_accepted : goal.returns-clause-not_accepted
returns-clause-not_accepted c accepted =
    let rises : 2 ≤ 1 = accepted.0 0 0 1 0 (omega arith) back in
    omega (arith, rises)
