use Rattle.std.proofs.Common.{◌≤◌, refl, inl, inr, arith}
use Rattle.tdm_problem.specs.Walk.{Links}
use Rattle.tdm_problem.specs.Samples.{wire, shared}
use Rattle.bound_cert.proofs.definitions.a_potential_rises_by_the_length_at_most.Goals as goal

forth : Links shared 0 0 1
forth = record { wire = wire 0 1; is = refl; ends = inl (refl, refl) }

back : Links shared 0 1 0
back = record { wire = wire 0 1; is = refl; ends = inr (refl, refl) }

pub returns-clause-steep : goal.returns-clause-steep
returns-clause-steep c = record { a = 0; b = 1; links = forth; more = omega arith }

pub returns-clause-steep_back : goal.returns-clause-steep_back
returns-clause-steep_back c = record { a = 1; b = 0; links = back; more = omega arith }

pub returns-clause-not_valid : goal.returns-clause-not_valid
returns-clause-not_valid c valid =
    let rises : 4 ≤ 3 = valid 0 0 0 1 (omega arith) forth in
    omega (arith, rises)
