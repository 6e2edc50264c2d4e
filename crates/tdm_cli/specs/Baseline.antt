-- What `route` makes of a board: the baseline, or why there is none.
use Rattle.std.specs.Prelude.{◌≡◌, ℕ, ◌<◌, ◌^◌, ◌≤◌, ◌↔◌, List, length, sum_by, Contains}
use Rattle.std.specs.List.Sorted.{IsStrictlyIncreasing}
use Rattle.tdm_problem.specs.Board.{Board}
use Rattle.tdm_problem.specs.Routing.{Routing, uses_of, wires_of}
use Rattle.tdm_problem.specs.Trees.{trees_of}
use Rattle.tdm_problem.specs.Walk.{IsConnectable, IsMinimalTree}
use Rattle.tdm_problem.specs.Legal.{IsLegal, terminals_of, AllConnectable}
use Rattle.even_legalise.specs.Uniform.{uniform_routing}
use Rattle.solution_text.specs.Sayable.{IsSayable}
use Rattle.shortest_forest.specs.Baseline.{AreBaseTrees}

-- the most uses of wires that `route` may write, counted net by net
abbrev pub most_uses : ℕ
most_uses = 2 ^ 25

-- the solution is legal and joins each net by a minimal tree: the baseline tree, with uniform ratios
pub record IsBaseline (board : Board) (routing : Routing) : Type 0 where
  pub joined : AllConnectable board
  pub legal : IsLegal board routing
  pub minimal : (n : ℕ) → n < length board.nets
      → IsMinimalTree board (wires_of (uses_of routing n)) (terminals_of board n)
  pub base : AreBaseTrees board (trees_of routing)
  pub uniform : routing ≡ uniform_routing board (trees_of routing)
  pub few : sum_by length routing ≤ most_uses
  pub sayable : IsSayable board routing

-- all nets whose FPGAs no wires join, rising
pub record AreUnconnectable (board : Board) (nets : List ℕ) : Type 0 where
  pub rising : IsStrictlyIncreasing nets
  pub exact : (n : ℕ) → Contains nets n ↔ ((n < length board.nets)
      × ¬ IsConnectable board (terminals_of board n))

-- the baseline has no more uses than `route` may write
abbrev pub IsWithinUseLimit : Board → Type 0
IsWithinUseLimit board = (trees : List (List ℕ)) → AreBaseTrees board trees → sum_by length trees ≤ most_uses

-- all nets can be joined, but the baseline trees have more wires together than `route` may write uses
pub record IsOverUseLimit (board : Board) : Type 0 where
  pub joined : AllConnectable board
  pub trees : List (List ℕ)
  pub base : AreBaseTrees board trees
  pub over : most_uses < sum_by length trees
