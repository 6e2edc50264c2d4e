use Rattle.std.proofs.Common.{◌<◌, length}
use Rattle.std.specs.Prelude.{All}
use Rattle.tdm_problem.specs.Board.{Board}
use Rattle.worst_refine.specs.NetUses.{AreUsesOn}
use Rattle.worst_refine.proofs.net_uses.add_wires.Given as goal

abbrev pub invariant-loop-wire : goal.invariant-loop-wire
invariant-loop-wire l = (board : Board) → l.net < length board.nets
    → All (λ e. e < length board.wires) l.wires → AreUsesOn board l.initial.uses.items
    → AreUsesOn board l.uses.items
