use Rattle.std.proofs.Common.{◌≡◌, ◌+◌, ◌*◌, ◌^◌, ◌≤◌, length}
use Rattle.std.specs.Prelude.{slice_index, All}
use Rattle.board_graph.specs.Graph.{board_of}
use Rattle.ripup_reroute.proofs.Bounding.{AreRowsBelow}
use Rattle.ripup_reroute.proofs.table.fill.Given as goal

abbrev pub invariant-loop-root : goal.invariant-loop-root
invariant-loop-root l = record {
  size : length l.distances.items ≡ length l.fn.distances.items;
  small : All (λ d. d ≤ 2 ^ 51) l.distances.items;
  labels : length l.search.labels ≡ length l.fn.search.labels;
  goals : l.search.goals ≡ l.fn.search.goals;
  rows : AreRowsBelow (board_of l.graph) (λ e. 2 * slice_index l.lengths.loads.now e + l.lengths.own) l.root
      l.distances.items;
}
