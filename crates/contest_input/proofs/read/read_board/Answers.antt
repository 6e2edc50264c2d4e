use Rattle.std.proofs.Common.{[]}
use Rattle.std.proofs.lemmas.Result.{IfOk-weaker, IfErr-weaker}
use Rattle.contest_input.proofs.read.read_board.Goals as goal

pub returns-clause-board : goal.returns-clause-board
returns-clause-board c =
    IfOk-weaker c.end.result _ _ (λ problem each. each c.args.bytes.now
    (c.in_ok-feed.ensures.at [] c.new-reader.ensures.at)) c.end.ensures.board

pub returns-clause-refused : goal.returns-clause-refused
returns-clause-refused c =
    IfErr-weaker c.end.result _ _ (λ fault each. each c.args.bytes.now
    (c.in_ok-feed.ensures.at [] c.new-reader.ensures.at)) c.end.ensures.refused
