use Rattle.contest_input.proofs.Accepted.{accepted-board}
use Rattle.contest_input.proofs.law.a_text_describes_a_board.Goals as goal

pub returns : goal.returns
returns c = accepted-board
