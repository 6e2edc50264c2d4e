use Rattle.std.proofs.Common.{arith}
use Rattle.command_run.proofs.DecisionLaws.{decides-early, decides-then}
use Rattle.tdm_cli.proofs.deciding.decide_eval.Goals as goal

pub returns-in-Ok : goal.returns-in-Ok
returns-in-Ok g c = decides-then _ _ _ _ _ _ _ _ _ _ _ c.in-Ok.ensures.ok c.read_input.ensures.counted
    c.decide_judging.ensures

pub returns-in-Err : goal.returns-in-Err
returns-in-Err g c = decides-early _ _ _ _ _ _ _ _ _ (
  omega arith,
  tt,
) c.in-Err.ensures.err c.read_input.ensures.counted
