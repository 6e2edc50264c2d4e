use Rattle.std.proofs.Common.{◌≡◌, ℕ, zero, suc, ◌≤◌, List, [], ◌∷◌, refl, inl, ⊎_elim, arith}
use Rattle.std.proofs.lemmas.List.Sums.{sum_by-cons}
use Rattle.tdm_problem.specs.Walk.{Links, IsWalk, AnyWire}
use Rattle.tdm_problem.specs.Distance.{length_of}
use Rattle.tdm_problem.specs.Samples.{wire, ring, ring_length}
use Rattle.tdm_problem.proofs.SampleBoards.{link-ends, two-lengths, two-hops, end-hops}
use Rattle.tdm_problem.proofs.definitions.a_distance_is_that_of_the_shortest_walk.Goals as goal

pub returns-clause-hops : goal.returns-clause-hops
returns-clause-hops c = end-hops 1 (omega arith) (omega arith)

pub returns-clause-less : goal.returns-clause-less
returns-clause-less c is = omega (arith, two-hops 1 (omega arith) is.walk.0 is.walk.1, is.walk.2)

-- ---- the ring

pub returns-clause-more : goal.returns-clause-more
returns-clause-more c is =
    let short : 2 ≤ 1 = is.least (2 ∷ []) (
      omega arith,
      (2, record { wire = wire 0 2; is = refl; ends = inl (refl, refl) }, refl),
    ) in
    omega (arith, short)

-- each wire has a length
has-length : (e : ℕ) → 1 ≤ ring_length e
has-length zero = omega arith
has-length (suc zero) = omega arith
has-length (suc (suc e)) = omega arith

-- only the long wire leads from 0 to 2
long-wire : (e b : ℕ) → Links ring e 0 b → b ≡ 2 → 2 ≤ ring_length e
long-wire zero b links same =
    ⊎_elim (λ forth. absurd (omega (arith, forth.1, same))) (λ back. absurd (omega (arith, back.1)))
    (link-ends ring 0 0 b (wire 0 1) refl links)
long-wire (suc zero) b links same =
    ⊎_elim (λ forth. absurd (omega (arith, forth.0))) (λ back. absurd (omega (arith, back.1)))
    (link-ends ring 1 0 b (wire 1 2) refl links)
long-wire (suc (suc e)) b links same = omega arith

two-long : (es : List ℕ) → IsWalk ring (AnyWire ring) 0 es 2 → 2 ≤ length_of ring_length es
two-long [] walk = absurd (omega (arith, walk))
two-long (e ∷ []) walk = omega (arith, sum_by-cons ring_length e [], long-wire e walk.1.0 walk.1.1 walk.1.2)
two-long (d ∷ e ∷ es) walk = omega (arith, two-lengths ring_length d e es, has-length d, has-length e)

pub returns-clause-lengths : goal.returns-clause-lengths
returns-clause-lengths c = record {
  walk = (
    0 ∷ 1 ∷ [],
    (
      omega arith,
      (
        1,
        record { wire = wire 0 1; is = refl; ends = inl (refl, refl) },
        (omega arith, (2, record { wire = wire 1 2; is = refl; ends = inl (refl, refl) }, refl)),
      ),
    ),
    refl,
  );
  least = two-long;
}
