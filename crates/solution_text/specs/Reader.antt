-- What a reader of a solution text that is fed in pieces stands for.
use Rattle.std.specs.Prelude.{◌≡◌, ℕ, List, [], ◌∷◌, length}
use Rattle.tdm_lines.specs.Reader.{IsFed}
use Rattle.tdm_lines.specs.declared.reading.Reading.{Reading}
use Rattle.tdm_problem.specs.Board.{Board}
use Rattle.solution_text.specs.Reading.{largest_number}
use Rattle.solution_text.specs.declared.state.SolutionState.{SolutionState}
use Rattle.solution_text.specs.Roles.{Reads, Holds}

-- the reader is for this board, is not spent, and was fed this text: whatever comes, the text says what the
-- reader's state says of that
pub record IsAt (reader : Reading SolutionState) (board : Board) (text : List ℕ) : Type 0 where
  pub sizes : reader.grammar.wires ∷ reader.grammar.nets ∷ [] ≡ length board.wires ∷ length board.nets ∷ []
  pub fed_is : IsFed Reads Holds largest_number reader text
