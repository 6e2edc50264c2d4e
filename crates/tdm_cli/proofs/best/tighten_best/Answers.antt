use Rattle.tdm_cli.proofs.BestLaws.{IsBest-lowered}
use Rattle.tdm_cli.proofs.best.tighten_best.Goals as goal

pub returns-clause-best : goal.returns-clause-best
returns-clause-best c =
    IsBest-lowered c.args.problem.now c.tighten.new.solution c.args.best.now.solution c.in_ok-best.field-0
    c.args.best.now.value c.args.best.now.certified
    c.requires.best c.in_ok-tighten.ensures.legal c.in_ok-tighten.ensures.lowered
    c.in_ok-tighten.ensures.value c.in_ok-best.ensures
