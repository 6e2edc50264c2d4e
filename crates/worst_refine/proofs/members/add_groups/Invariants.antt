use Rattle.std.proofs.Common.{◌<◌, length}
use Rattle.std.specs.Prelude.{All}
use Rattle.tdm_problem.specs.Board.{Board}
use Rattle.worst_refine.specs.Members.{AreMembersOf}
use Rattle.worst_refine.proofs.members.add_groups.Given as goal

abbrev pub invariant-loop-group : goal.invariant-loop-group
invariant-loop-group l = (board : Board) → l.net < length board.nets
    → All (λ g. g < length board.groups) l.groups → AreMembersOf board l.initial.members.items
    → AreMembersOf board l.members.items
