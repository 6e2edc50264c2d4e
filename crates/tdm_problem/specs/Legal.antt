use Rattle.std.specs.Prelude.{◌≡◌, ℕ, ◌<◌, ◌*◌, List, [], length, slice_index, slice_index_or, All, Contains}
use Rattle.tdm_problem.specs.Board.{Board}
use Rattle.tdm_problem.specs.Routing.{Routing, uses_of, wires_of, ratios_of, ratios_on, IsFor}
use Rattle.tdm_problem.specs.Walk.{Joins, IsConnectable}
use Rattle.tdm_problem.specs.Fit.{FitsLanes}

-- how many lanes wire e has, which is what the reciprocals on it may sum to: 1 on every wire
abbrev pub lanes_of : Board → ℕ → ℕ
lanes_of board e = 1

-- the FPGAs of net n
abbrev pub terminals_of : Board → ℕ → List ℕ
terminals_of board n = slice_index_or board.nets n []

-- the source of net n: the first of its FPGAs
abbrev pub source_of : Board → ℕ → ℕ
source_of board n = slice_index (terminals_of board n) 0

-- all wires of the board together join the FPGAs of each net
abbrev pub AllConnectable : Board → Type 0
AllConnectable board = (n : ℕ) → n < length board.nets → IsConnectable board (terminals_of board n)

-- a ratio that a net may have on a wire: positive and even
abbrev pub IsEvenRatio : ℕ → Type 0
IsEvenRatio ratio = (half : ℕ) × (0 < half) × (ratio ≡ 2 * half)

-- the routing is for the board, the wires of each net join its FPGAs, each ratio is positive and even, and on
-- each wire the reciprocals of the ratios sum to at most its lanes
pub record IsLegal (board : Board) (routing : Routing) : Type 0 where
  pub is_for : IsFor board routing
  pub joined : (n : ℕ) → n < length board.nets
      → Joins board (Contains (wires_of (uses_of routing n))) (terminals_of board n)
  pub even : All (λ uses. All IsEvenRatio (ratios_of uses)) routing
  pub fits : (e : ℕ) → e < length board.wires → FitsLanes (ratios_on routing e) (lanes_of board e)
