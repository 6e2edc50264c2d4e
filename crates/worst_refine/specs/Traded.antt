use Rattle.std.specs.Prelude.{◌≡◌, ℕ, ◌<◌, ◌≤◌, List, All}
use Rattle.tdm_problem.specs.Board.{Board}
use Rattle.tdm_problem.specs.Legal.{IsLegal, IsEvenRatio}
use Rattle.tdm_problem.specs.Routing.{Routing, ratios_of}
use Rattle.tdm_problem.specs.Trees.{trees_of}
use Rattle.tdm_problem.specs.Value.{value_of}

-- an even ratio of 32 bits
abbrev pub IsSmallRatio : ℕ → Type 0
IsSmallRatio ratio = IsEvenRatio ratio × (ratio ≤ 4294967294)

-- no ratio is above the greatest even number of 32 bits
abbrev pub HasSmallRatios : Routing → Type 0
HasSmallRatios routing = All (λ uses. All (λ ratio. ratio ≤ 4294967294) (ratios_of uses)) routing

-- each net uses exactly the wires of its tree, the ratios are legal and small, and the value is below a
-- number
pub record IsBetter (board : Board) (trees : List (List ℕ)) (best : ℕ) (routing : Routing) : Type 0 where
  pub legal : IsLegal board routing
  pub wires : trees_of routing ≡ trees
  pub small : HasSmallRatios routing
  pub below : value_of board routing < best

-- the same wires, legal and small ratios, and a value that is not above the old
pub record IsTraded (board : Board) (old new : Routing) : Type 0 where
  pub legal : IsLegal board new
  pub wires : trees_of new ≡ trees_of old
  pub small : HasSmallRatios new
  pub value : value_of board new ≤ value_of board old
