use Rattle.std.proofs.Common.{◌≤◌}
use Rattle.board_graph.specs.Graph.{board_of}
use Rattle.steiner_build.proofs.ComposingLaws.{IsComposing}
use Rattle.steiner_build.proofs.joining.join_all.Given as goal

abbrev pub invariant-loop-left : goal.invariant-loop-left
invariant-loop-left g l = record {
  composing : IsComposing (board_of l.graph) (g.Q.Lengths.length l.lengths)
      (g.B.LowerBounds.lower_bound l.bounds) l.cap l.start l.fn.search l.search l.wires.items l.total l.left;
  lawful : g.B.TreeBounds.are_true l.bounds (board_of l.graph) (g.Q.Lengths.length l.lengths) l.search.goals;
  covered : l.graph.fpgas ≤ g.B.LowerBounds.bounds_covered l.bounds;
}

abbrev pub decreases-loop-left : goal.decreases-loop-left
decreases-loop-left g l = l.left
