use Rattle.std.specs.Prelude.{◌≡◌, length, vec_len}
use Rattle.tdm_problem.specs.Board.{Board}
use Rattle.worst_refine.specs.declared.trader.Trader.{Trader}

-- the arrays of a trade have a place for each net, group and wire of the board
pub record IsTraderFor (board : Board) (t : Trader) : Type 0 where
  pub prices : vec_len t.prices ≡ length board.nets
  pub loads : vec_len t.loads ≡ length board.wires
  pub net_values : vec_len t.net_values ≡ length board.nets
  pub net_numbers : vec_len t.net_numbers ≡ length board.nets
  pub group_sums : vec_len t.group_sums ≡ length board.groups
  pub wires : vec_len t.wires ≡ length board.wires
  pub classes : vec_len t.classes ≡ length board.wires
