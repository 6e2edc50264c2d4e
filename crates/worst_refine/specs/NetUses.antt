use Rattle.std.specs.Prelude.{◌<◌, List, length, All}
use Rattle.tdm_problem.specs.Board.{Board}
use Rattle.worst_refine.specs.declared.net_uses.NetUse.{NetUse}

-- each is a net and a wire of the board
pub record AreUsesOn (board : Board) (uses : List NetUse) : Type 0 where
  pub nets : All (λ u. u.net < length board.nets) uses
  pub wires : All (λ u. u.wire < length board.wires) uses
