use Rattle.std.proofs.Common.{◌≡◌, ◌^◌, ◌<◌, subst, sym}
use Rattle.std.specs.Prelude.{All}
use Rattle.std.proofs.lemmas.Result.{IfOk-weaker}
use Rattle.tdm_problem.specs.Routing.{ratios_of, HasRisingWires}
use Rattle.tdm_problem.specs.Legal.{IsLegal}
use Rattle.even_legalise.specs.Uniform.{uniform_routing}
use Rattle.even_legalise.proofs.UniformIsLegal.{uniform_is_legal, uniform_ratios_small, uniform_wires_rise}
use Rattle.even_legalise.proofs.solution.uniform_solution.Goals as goal

pub returns-clause-legal : goal.returns-clause-legal
returns-clause-legal c =
    IfOk-weaker c.with_uniform_ratios.result (λ s. s ≡ uniform_routing c.args.problem.now c.args.trees.now)
    (λ s. IsLegal c.args.problem.now s)
    (λ s is. subst (λ r. IsLegal c.args.problem.now r) (sym is)
    (uniform_is_legal c.args.problem.now c.args.trees.now c.requires.trees_for
    c.in_ok-counts.ensures.rising c.requires.joined))
    c.with_uniform_ratios.ensures

pub returns-clause-small : goal.returns-clause-small
returns-clause-small c =
    IfOk-weaker c.with_uniform_ratios.result (λ s. s ≡ uniform_routing c.args.problem.now c.args.trees.now)
    (λ s. All (λ uses. All (λ ratio. ratio < 2 ^ 32) (ratios_of uses)) s)
    (λ s is. subst (λ r. All (λ uses. All (λ ratio. ratio < 2 ^ 32) (ratios_of uses)) r) (sym is)
    (uniform_ratios_small c.args.problem.now c.args.trees.now c.in_ok-counts.ensures.rising))
    c.with_uniform_ratios.ensures

pub returns-clause-rising : goal.returns-clause-rising
returns-clause-rising c =
    IfOk-weaker c.with_uniform_ratios.result (λ s. s ≡ uniform_routing c.args.problem.now c.args.trees.now)
    HasRisingWires
    (λ s is. subst HasRisingWires (sym is)
    (uniform_wires_rise c.args.problem.now c.args.trees.now c.in_ok-counts.ensures.rising))
    c.with_uniform_ratios.ensures
