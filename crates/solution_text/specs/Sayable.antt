-- Solutions that a text can say.
use Rattle.std.specs.Prelude.{◌<◌, ◌^◌, All}
use Rattle.tdm_problem.specs.Board.{Board, IsBoard}
use Rattle.tdm_problem.specs.Routing.{Routing, ratios_of, IsFor, HasRisingWires}

-- a solution for a board within its limits; the wires of each net rise, and ratios are below 2^32
pub record IsSayable (board : Board) (routing : Routing) : Type 0 where
  pub limits : IsBoard board
  pub is_for : IsFor board routing
  pub rising : HasRisingWires routing
  pub short : All (λ uses. All (λ ratio. ratio < 2 ^ 32) (ratios_of uses)) routing
