use Rattle.std.proofs.Common.{◌≡◌, ℕ, ◌+◌, ◌<◌, ◌≤◌, ◌^◌, List, ◌++◌, length, get_or, take, drop, ap, sym, subst, refl, arith}
use Rattle.std.specs.Prelude.{◌==◌, All, max, sum_by, if◌then◌else◌}
use Rattle.std.proofs.lemmas.Grind.{common_steps}
use Rattle.std.proofs.lemmas.List.{take_all}
use Rattle.even_legalise.proofs.UniformSteps.{distinct_row}
use Rattle.even_legalise.proofs.ClaimSteps.{HasClaimsBy, claims_step, claims_small, claims_whole, least_is_small}
use Rattle.even_legalise.proofs.claims.all_claims.Goals as goal

pub add_claims-requires-clause-distinct : goal.add_claims-requires-clause-distinct
add_claims-requires-clause-distinct c = distinct_row c.wires_of.result.now c.wires_of.ensures.rising

pub add_claims-requires-clause-least_small : goal.add_claims-requires-clause-least_small
add_claims-requires-clause-least_small c =
    least_is_small c.args.trees.now c.args.s.now c.args.least.now c.requires.small c.requires.is_least

pub add_claims-requires-clause-room : goal.add_claims-requires-clause-room
add_claims-requires-clause-room c =
    subst (λ (sums : List ℕ). All (λ all. all ≤ 2 ^ 60) sums) (sym c.deref_mut.ensures.value)
    (claims_small c.args.trees.now c.args.s.now c.args.least.now c.loop-n.n c.loop-n.claims.items
    c.nets-n-end.ensures.rising c.requires.paired c.requires.small
    (least_is_small c.args.trees.now c.args.s.now c.args.least.now c.requires.small c.requires.is_least)
    c.loop-n.invariant)

pub loop-n-preserved : goal.loop-n-preserved
loop-n-preserved c =
    let inside : c.loop-n.n < length c.args.trees.now = omega arith in
    let is : take c.loop-n.claims.len (c.add_claims.new.claims ++ drop (length c.add_claims.new.claims)
    c.loop-n.claims.items) ≡ c.add_claims.new.claims = grind (arith, common_steps) in
    let added : (e : ℕ) → e < length c.loop-n.claims.items → get_or c.add_claims.new.claims e 0
    ≡ get_or c.loop-n.claims.items e 0
    + sum_by (λ d. if d == e then max (get_or c.args.s.now c.loop-n.n 0) (get_or c.args.least.now e 0)
    else 0) c.wires_of.result.now =
    subst (λ (old : List ℕ). (e : ℕ) → e < length old → get_or c.add_claims.new.claims e 0 ≡ get_or old e 0
    + sum_by (λ d. if d == e then max (get_or c.args.s.now c.loop-n.n 0) (get_or c.args.least.now e 0)
    else 0) c.wires_of.result.now) c.deref_mut.ensures.value c.add_claims.ensures in
    subst (HasClaimsBy (take (c.loop-n.n + 1) c.args.trees.now) (take (c.loop-n.n + 1) c.args.s.now)
    c.args.least.now) (sym is)
    (claims_step c.args.trees.now c.args.s.now c.args.least.now c.loop-n.n c.loop-n.claims.items
    c.add_claims.new.claims c.wires_of.result.now (get_or c.args.s.now c.loop-n.n 0) inside
    (omega arith) c.wires_of.ensures.value refl c.loop-n.invariant
    (omega (
      arith,
      c.add_claims.auto.claims,
      ap length c.deref_mut.ensures.value,
      c.loop-n.invariant.whole,
    )) added)

pub returns-clause-claims : goal.returns-clause-claims
returns-clause-claims c =
    let all : HasClaimsBy c.args.trees.now c.args.s.now c.args.least.now c.loop-n.claims.items =
    subst (λ trees. HasClaimsBy trees c.args.s.now c.args.least.now c.loop-n.claims.items)
    (take_all c.loop-n.n c.args.trees.now (omega arith))
    (subst (λ numbers. HasClaimsBy (take c.loop-n.n c.args.trees.now) numbers c.args.least.now
    c.loop-n.claims.items) (take_all c.loop-n.n c.args.s.now (omega arith)) c.loop-n.invariant) in
    claims_whole c.args.trees.now c.args.s.now c.args.least.now c.loop-n.claims.items c.requires.is_least all
