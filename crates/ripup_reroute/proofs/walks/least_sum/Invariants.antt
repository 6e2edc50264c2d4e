use Rattle.std.proofs.Common.{◌≡◌, ◌+◌, ◌*◌}
use Rattle.std.specs.Prelude.{slice_index}
use Rattle.board_graph.specs.Graph.{board_of}
use Rattle.ripup_reroute.specs.Bounds.{bound_at}
use Rattle.ripup_reroute.proofs.Reaching.{IsRaising}
use Rattle.ripup_reroute.proofs.walks.least_sum.Given as goal

abbrev pub invariant-loop-t : goal.invariant-loop-t
invariant-loop-t l = record {
  raising : IsRaising (board_of l.graph) (λ e. 2 * slice_index l.lengths.loads.now e + l.lengths.own)
      (slice_index l.terminals 0) l.terminals (λ t. bound_at l.table l.scale t (slice_index l.terminals 0))
      l.t-index l.known l.left l.cap;
  builder : l.builder.fpgas ≡ l.fn.builder.fpgas;
}
