use Rattle.std.proofs.Common.{◌≡◌, ◌+◌, ◌<◌, ◌^◌, [], ◌∷◌, ◌++◌, length, map, get_or, take, ap, sym, subst, ◌∙◌, refl, arith}
use Rattle.std.specs.Prelude.{All, sum}
use Rattle.std.proofs.lemmas.List.{take_all}
use Rattle.std.proofs.lemmas.List.Elements.{All-push}
use Rattle.tdm_problem.specs.Routing.{ratios_of}
use Rattle.even_legalise.specs.Shared.{shared_routing}
use Rattle.even_legalise.proofs.SharedSteps.{AreClaims, are_claims, length-shared, shared_sums_more}
use Rattle.even_legalise.proofs.group_sums.sums_of_nets.Goals as goal

pub sum_of_net-requires : goal.sum_of_net-requires
sum_of_net-requires c =
    let here : AreClaims c.args.least.now c.args.claims.now c.wires_of.result.now
    (get_or c.args.s.now c.loop-n.n 0) =
    are_claims c.args.problem.now c.args.trees.now c.args.s.now c.args.least.now c.args.claims.now c.loop-n.n
    c.wires_of.result.now (get_or c.args.s.now c.loop-n.n 0) c.requires.trees_for c.requires.rising
    c.requires.paired c.requires.small c.requires.is_least c.requires.is_claims
    (omega arith) c.wires_of.ensures.value in
    record {
      small = c.requires.small c.loop-n.n 0 (omega arith);
      paired = omega (arith, c.requires.is_least.whole, c.requires.is_claims.whole);
      there = here.there;
      some = here.some;
      least_small = here.least_small;
      some_claims = here.some_claims;
      few = here.few;
    }

pub loop-n-preserved : goal.loop-n-preserved
loop-n-preserved c =
    let inside : c.loop-n.n < length c.args.trees.now = omega arith in
    let more : map (λ uses. sum (ratios_of uses))
    (take (c.loop-n.n + 1) (shared_routing c.args.problem.now c.args.trees.now c.args.s.now))
    ≡ map (λ uses. sum (ratios_of uses))
    (take c.loop-n.n (shared_routing c.args.problem.now c.args.trees.now c.args.s.now))
    ++ c.sum_of_net.result ∷ [] =
    shared_sums_more c.args.problem.now c.args.trees.now c.args.s.now c.args.least.now c.args.claims.now
    c.loop-n.n c.wires_of.result.now (get_or c.args.s.now c.loop-n.n 0) c.sum_of_net.result
    c.requires.trees_for c.requires.paired c.requires.is_least c.requires.is_claims inside
    c.wires_of.ensures.value refl c.sum_of_net.ensures.total in (
      c.in_ok-push.ensures.items ∙ (ap (λ sums. sums ++ c.sum_of_net.result ∷ []) c.loop-n.invariant.0
          ∙ sym more),
      subst (λ sums. All (λ total. total < 2 ^ 96) sums) (sym c.in_ok-push.ensures.items)
          (All-push (λ total. total < 2 ^ 96) c.loop-n.sums.items c.sum_of_net.result c.loop-n.invariant.1
          c.sum_of_net.ensures.small),
    )

pub returns-clause-sums : goal.returns-clause-sums
returns-clause-sums c =
    c.loop-n.invariant.0
    ∙ ap (map (λ uses. sum (ratios_of uses)))
    (take_all c.loop-n.n (shared_routing c.args.problem.now c.args.trees.now c.args.s.now)
    (omega (arith, length-shared c.args.problem.now c.args.trees.now c.args.s.now c.requires.paired)))
