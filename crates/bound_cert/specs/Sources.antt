-- The sources of the nets, from which hops are counted.
use Rattle.std.specs.Prelude.{ℕ, List, map, slice_index}
use Rattle.tdm_problem.specs.Board.{Board, without_repeats}

-- the sources of the nets, each once, in the order in which the nets first have them
abbrev pub sources_of : Board → List ℕ
sources_of board = without_repeats (map (λ net. slice_index net 0) board.nets)
