use Rattle.solution_text.proofs.ForBoard.{solution_is_for}
use Rattle.command_run.proofs.DecisionLaws.{decides-early, decides-then, decides-last}
use Rattle.tdm_cli.proofs.deciding.decide_judging.Goals as goal

pub eval-requires : goal.eval-requires
eval-requires g c = let had = rw c.new-reader.ensures.problem at c.in-Ok.ensures.ok in
    solution_is_for _ had.bytes _ had.says

pub returns-in-Ok : goal.returns-in-Ok
returns-in-Ok g c =
    decides-then _ _ _ _ _ _ _ _ _ _ _ (rw c.new-reader.ensures.problem at c.in-Ok.ensures.ok)
    c.read_input.ensures.counted
    (decides-last _ _ _ _ _ _ _ c.eval.ensures c.decided.ensures.some c.decided.ensures.wanting)

pub returns-in-Err : goal.returns-in-Err
returns-in-Err g c =
    decides-early _ _ _ _ _ _ _ _ _ tt (rw c.new-reader.ensures.problem at c.in-Err.ensures.err)
    c.read_input.ensures.counted
