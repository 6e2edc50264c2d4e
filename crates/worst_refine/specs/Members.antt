use Rattle.std.specs.Prelude.{◌<◌, List, length, All}
use Rattle.tdm_problem.specs.Board.{Board}
use Rattle.worst_refine.specs.declared.members.Member.{Member}

-- each member is a net and a group of the board
pub record AreMembersOf (board : Board) (members : List Member) : Type 0 where
  pub nets : All (λ m. m.net < length board.nets) members
  pub groups : All (λ m. m.group < length board.groups) members
