-- What a reader of a certificate text that is fed in pieces stands for.
use Rattle.std.specs.Prelude.{◌≡◌, ℕ, List, [], ◌∷◌, length}
use Rattle.tdm_lines.specs.Reader.{IsFed}
use Rattle.tdm_lines.specs.declared.reading.Reading.{Reading}
use Rattle.tdm_problem.specs.Board.{Board}
use Rattle.bound_cert.specs.declared.state.CertState.{CertState}
use Rattle.bound_cert.specs.declared.state.Sizes.{Sizes}
use Rattle.bound_cert.specs.Limits.{most_potential_value}
use Rattle.bound_cert.specs.Roles.{Reads, Holds}

-- how large the things of a board are that a certificate speaks of
abbrev pub sizes_of : Board → Sizes
sizes_of board = record {
  fpgas = board.fpgas;
  groups = length board.groups;
  wires = length board.wires;
  nets = length board.nets;
}

-- the same as a list
abbrev pub listed : Sizes → List ℕ
listed sizes = sizes.fpgas ∷ sizes.groups ∷ sizes.wires ∷ sizes.nets ∷ []

-- the reader is for this board, is not spent, and was fed this text: whatever comes, the text says what the
-- reader's state says of that
pub record IsAt (reader : Reading CertState) (board : Board) (text : List ℕ) : Type 0 where
  pub sizes : listed reader.grammar.sizes ≡ listed (sizes_of board)
  pub fed_is : IsFed Reads Holds most_potential_value reader text
