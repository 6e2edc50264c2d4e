use Rattle.std.proofs.Common.{sym, subst, below_more}
use Rattle.std.specs.Prelude.{All}
use Rattle.tdm_problem.specs.Legal.{IsEvenRatio}
use Rattle.tdm_problem.specs.Routing.{ratios_of}
use Rattle.solution_eval.specs.Violations.{HasEvenRatios}
use Rattle.solution_eval.proofs.bad_use.first_bad_use.Goals as goal

pub loop-n-preserved : goal.loop-n-preserved
loop-n-preserved c =
    let here : HasEvenRatios c.args.solution.now c.loop-n.n =
    subst (λ uses. All IsEvenRatio (ratios_of uses)) (sym c.uses.ensures.value) c.in_default.ensures in
    below_more (HasEvenRatios c.args.solution.now) c.loop-n.n c.loop-n.invariant here
