-- The text that is written of a board.
use Rattle.std.specs.Prelude.{ℕ, List, [], ◌∷◌, ◌++◌, length}
use Rattle.std.specs.List.{flat_map}
use Rattle.tdm_lines.specs.Written.{line_text}
use Rattle.tdm_problem.specs.declared.wire.Wire.{Wire}
use Rattle.tdm_problem.specs.Board.{Board}

-- the numbers of FPGAs, wires, nets and groups
abbrev pub header_row : Board → List ℕ
header_row board = board.fpgas ∷ length board.wires ∷ length board.nets ∷ length board.groups ∷ []

-- the two FPGAs of a wire
abbrev pub wire_row : Wire → List ℕ
wire_row wire = wire.a ∷ wire.b ∷ []

-- a line with them
abbrev pub wire_line : Wire → List ℕ
wire_line wire = line_text (wire_row wire)

-- the header, and a line for each wire, each net and each group, in order
abbrev pub board_text : Board → List ℕ
board_text board = line_text (header_row board)
    ++ flat_map wire_line board.wires
    ++ flat_map line_text board.nets
    ++ flat_map line_text board.groups
