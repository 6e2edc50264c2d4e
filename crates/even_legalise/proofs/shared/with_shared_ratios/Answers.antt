use Rattle.std.proofs.Common.{◌≡◌, ◌+◌, ◌<◌, [], ◌∷◌, ◌++◌, length, get_or, take, ap, sym, ◌∙◌, refl, arith}
use Rattle.std.proofs.lemmas.List.{take_all}
use Rattle.even_legalise.specs.Shared.{shared_routing}
use Rattle.even_legalise.proofs.SharedSteps.{AreClaims, are_claims, claimed_ratio, length-shared, shared_more}
use Rattle.even_legalise.proofs.UniformSteps.{rising_uses}
use Rattle.even_legalise.proofs.shared.with_shared_ratios.Goals as goal

pub set_shared_uses-requires : goal.set_shared_uses-requires
set_shared_uses-requires c =
    let here : AreClaims c.args.least.now c.args.claims.now c.wires_of.result.now
    (get_or c.args.s.now c.loop-n.n 0) =
    are_claims c.args.problem.now c.args.trees.now c.args.s.now c.args.least.now c.args.claims.now c.loop-n.n
    c.wires_of.result.now (get_or c.args.s.now c.loop-n.n 0) c.requires.trees_for c.requires.rising
    c.requires.paired c.requires.small c.requires.is_least c.requires.is_claims
    (omega arith) c.wires_of.ensures.value in
    record {
      small = c.requires.small c.loop-n.n 0 (omega arith);
      paired = omega (arith, c.requires.is_least.whole, c.requires.is_claims.whole);
      there = here.there;
      some = here.some;
      least_small = here.least_small;
      some_claims = here.some_claims;
      few = here.few;
    }

pub push_net-requires-clause-rising : goal.push_net-requires-clause-rising
push_net-requires-clause-rising c =
    rising_uses (claimed_ratio c.args.least.now c.args.claims.now (get_or c.args.s.now c.loop-n.n 0))
    c.wires_of.result.now c.deref.result.now (c.deref.ensures.value ∙ c.in_ok-set_shared_uses.ensures)
    c.wires_of.ensures.rising

pub loop-n-preserved : goal.loop-n-preserved
loop-n-preserved c =
    let inside : c.loop-n.n < length c.args.trees.now = omega arith in
    let more : take (c.loop-n.n + 1) (shared_routing c.args.problem.now c.args.trees.now c.args.s.now)
    ≡ take c.loop-n.n (shared_routing c.args.problem.now c.args.trees.now c.args.s.now)
    ++ c.deref.result.now ∷ [] =
    shared_more c.args.problem.now c.args.trees.now c.args.s.now c.args.least.now c.args.claims.now c.loop-n.n
    c.wires_of.result.now (get_or c.args.s.now c.loop-n.n 0) c.deref.result.now c.requires.trees_for
    c.requires.paired c.requires.is_least c.requires.is_claims inside c.wires_of.ensures.value refl
    (c.deref.ensures.value ∙ c.in_ok-set_shared_uses.ensures) in
    c.in_ok-push_net.ensures.ok ∙ (ap (λ s. s ++ c.deref.result.now ∷ []) c.loop-n.invariant ∙ sym more)

pub returns : goal.returns
returns c =
    c.loop-n.invariant
    ∙ take_all c.loop-n.n (shared_routing c.args.problem.now c.args.trees.now c.args.s.now)
    (omega (arith, length-shared c.args.problem.now c.args.trees.now c.args.s.now c.requires.paired))
