use Rattle.std.proofs.Common.{ℕ, ◌≤◌, List, [], ◌∷◌, refl, inl, inr, arith}
use Rattle.tdm_problem.specs.Walk.{Links, IsWalk, AnyWire}
use Rattle.tdm_problem.specs.Distance.{length_of, IsHopCount}
use Rattle.tdm_problem.specs.Samples.{wire, doubled}
use Rattle.shortest_forest.specs.Baseline.{IsNearer}
use Rattle.shortest_forest.proofs.SampleParents.{one-hop}
use Rattle.shortest_forest.proofs.definitions.the_least_wire_is_the_parent.Goals as goal

back : Links doubled 0 1 0
back = record { wire = wire 0 1; is = refl; ends = inr (refl, refl) }

source-hops : IsHopCount doubled 0 0 0
source-hops = record { walk = ([], refl, refl); least = λ es walk. omega arith }

away : (es : List ℕ) → IsWalk doubled (AnyWire doubled) 0 es 1 → 1 ≤ length_of (λ d. 1) es
away [] walk = absurd (omega (arith, walk))
away (e ∷ es) walk = one-hop e es

other-hops : IsHopCount doubled 0 1 1
other-hops = record {
  walk = (
    0 ∷ [],
    (omega arith, (1, record { wire = wire 0 1; is = refl; ends = inl (refl, refl) }, refl)),
    refl,
  );
  least = away;
}

nearer : IsNearer doubled 0 1 0
nearer = (0, source-hops, other-hops)

pub returns-clause-least : goal.returns-clause-least
returns-clause-least c = record { links = back; nearer = nearer; least = λ d x links near. omega arith }

pub returns-clause-other : goal.returns-clause-other
returns-clause-other c parent = omega (arith, parent.least 0 0 back nearer)
