use Rattle.std.specs.Prelude.{◌≡◌, ℕ, ◌<◌, ◌≤◌, List, [], length, map, slice_index_or, All}
use Rattle.std.specs.List.Sorted.{IsStrictlyIncreasing}
use Rattle.tdm_problem.specs.Limits.{most_nets}
use Rattle.tdm_problem.specs.Board.{Board}
use Rattle.tdm_problem.specs.Routing.{Routing, wires_of}

-- the wires of net n
abbrev pub tree_of : List (List ℕ) → ℕ → List ℕ
tree_of trees n = slice_index_or trees n []

-- for no more nets than a board may have, each net's wires rising strictly
pub record HasRisingRows (trees : List (List ℕ)) : Type 0 where
  pub net_limit : length trees ≤ most_nets
  pub rising : All IsStrictlyIncreasing trees

-- the trees have wires for each net of the board, and the wires are there
pub record AreTreesFor (board : Board) (trees : List (List ℕ)) : Type 0 where
  pub nets : length trees ≡ length board.nets
  pub there : All (λ wires. All (λ e. e < length board.wires) wires) trees

-- the wires of each net's uses
abbrev pub trees_of : Routing → List (List ℕ)
trees_of routing = map wires_of routing
