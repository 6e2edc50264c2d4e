use Rattle.std.specs.Prelude.{ℕ, ◌≤◌, List, [], length, All}
use Rattle.tdm_problem.specs.declared.wire.Wire.{Wire}
use Rattle.tdm_problem.specs.Limits.{most_fpgas, most_wires}
use Rattle.tdm_problem.specs.Board.{Board, IsWireOf}

-- how many FPGAs a board has, and its wires
pub record Graph : Type 0 where
  pub fpgas : ℕ
  pub wires : List Wire

-- each wire joins two different FPGAs of the graph, and there are not too many of either
pub record IsGraph (graph : Graph) : Type 0 where
  pub fpga_limit : graph.fpgas ≤ most_fpgas
  pub wire_limit : length graph.wires ≤ most_wires
  pub wires : All (IsWireOf graph.fpgas) graph.wires

-- the FPGAs and wires of a board
abbrev pub graph_of : Board → Graph
graph_of board = record { fpgas = board.fpgas; wires = board.wires }

-- the board with the FPGAs and wires of a graph, and without nets
abbrev pub board_of : Graph → Board
board_of graph = record { fpgas = graph.fpgas; wires = graph.wires; nets = []; groups = [] }
