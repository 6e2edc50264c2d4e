use Rattle.tdm_cli.proofs.ImprovedLaws.{IsBest-baseline}
use Rattle.tdm_cli.proofs.prepare.best_of_baseline.Goals as goal

pub returns : goal.returns
returns c = IsBest-baseline c.args.problem.now c.in_ok-solution.solution c.in_ok-worth.worth
    c.in_ok-certified.certified c.in_ok-solution.ensures c.in_ok-certified.ensures.best c.in_ok-worth.ensures
    c.in_ok-certified.ensures.bound
