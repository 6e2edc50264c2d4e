use Rattle.std.proofs.Common.{◌≡◌, ◌^◌, ◌<◌, length, subst, sym, ◌∙◌}
use Rattle.std.specs.Prelude.{All}
use Rattle.std.proofs.lemmas.Result.{IfOk-weaker}
use Rattle.tdm_problem.specs.Routing.{ratios_of, HasRisingWires}
use Rattle.tdm_problem.specs.Legal.{IsLegal}
use Rattle.even_legalise.specs.Shared.{shared_routing}
use Rattle.even_legalise.proofs.SharedIsLegal.{shared_is_legal, shared_ratios_small, shared_wires_rise}
use Rattle.even_legalise.proofs.shared.legalise.Goals as goal

pub returns-clause-legal : goal.returns-clause-legal
returns-clause-legal c =
    let paired : length c.args.s.now ≡ length c.args.trees.now = c.requires.paired
    ∙ sym c.requires.trees_for.nets in
    IfOk-weaker c.with_shared_ratios.result (λ s. s ≡ shared_routing c.args.problem.now c.args.trees.now
    c.args.s.now) (λ s. IsLegal c.args.problem.now s)
    (λ s is. subst (λ r. IsLegal c.args.problem.now r) (sym is)
    (shared_is_legal c.args.problem.now c.args.trees.now c.args.s.now c.requires.trees_for
    c.in_ok-claims.ensures.rising c.requires.joined paired))
    c.with_shared_ratios.ensures

pub returns-clause-small : goal.returns-clause-small
returns-clause-small c =
    let paired : length c.args.s.now ≡ length c.args.trees.now = c.requires.paired
    ∙ sym c.requires.trees_for.nets in
    IfOk-weaker c.with_shared_ratios.result (λ s. s ≡ shared_routing c.args.problem.now c.args.trees.now
    c.args.s.now) (λ s. All (λ uses. All (λ ratio. ratio < 2 ^ 32) (ratios_of uses)) s)
    (λ s is. subst (λ r. All (λ uses. All (λ ratio. ratio < 2 ^ 32) (ratios_of uses)) r) (sym is)
    (shared_ratios_small c.args.problem.now c.args.trees.now c.args.s.now
    c.in_ok-claims.ensures.rising paired))
    c.with_shared_ratios.ensures

pub returns-clause-rising : goal.returns-clause-rising
returns-clause-rising c =
    let paired : length c.args.s.now ≡ length c.args.trees.now = c.requires.paired
    ∙ sym c.requires.trees_for.nets in
    IfOk-weaker c.with_shared_ratios.result (λ s. s ≡ shared_routing c.args.problem.now c.args.trees.now
    c.args.s.now) HasRisingWires
    (λ s is. subst HasRisingWires (sym is) (shared_wires_rise c.args.problem.now c.args.trees.now c.args.s.now
    c.in_ok-claims.ensures.rising paired))
    c.with_shared_ratios.ensures
