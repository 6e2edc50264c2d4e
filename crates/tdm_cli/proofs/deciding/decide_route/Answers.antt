use Rattle.command_run.proofs.DecisionLaws.{decides-early, decides-then, decides-last}
use Rattle.tdm_cli.proofs.deciding.decide_route.Goals as goal

pub returns-in-Ok : goal.returns-in-Ok
returns-in-Ok g c = decides-then _ _ _ _ _ _ _ _ _ _ _ c.in-Ok.ensures.ok c.read_input.ensures.counted
    (decides-last _ _ _ _ _ _ _ c.route.ensures c.decided.ensures.some c.decided.ensures.wanting)

pub returns-in-Err : goal.returns-in-Err
returns-in-Err g c = decides-early _ _ _ _ _ _ _ _ _ tt c.in-Err.ensures.err c.read_input.ensures.counted
