-- A small board with two nets, on which turns are computed.
use Rattle.std.specs.Prelude.{ℕ, List, [], ◌∷◌}
use Rattle.tdm_problem.specs.Board.{Board}
use Rattle.tdm_problem.specs.Samples.{wire}

-- two FPGAs, two wires between them, and two nets on both
abbrev pub crossing : Board
crossing = record {
  fpgas = 2;
  wires = wire 0 1 ∷ wire 0 1 ∷ [];
  nets = (0 ∷ 1 ∷ []) ∷ (0 ∷ 1 ∷ []) ∷ [];
  groups = [];
}

-- both nets on wire 0
abbrev pub crowded : List (List ℕ)
crowded = (0 ∷ []) ∷ (0 ∷ []) ∷ []

-- a wire for each net
abbrev pub spread : List (List ℕ)
spread = (0 ∷ []) ∷ (1 ∷ []) ∷ []
