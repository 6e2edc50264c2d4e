use Rattle.std.proofs.Common.{◌≡◌}
use Rattle.ripup_reroute.specs.Turns.{AreFallingPasses}
use Rattle.ripup_reroute.specs.Rerouting.{AreRerouted}
use Rattle.board_graph.specs.Graph.{board_of}
use Rattle.ripup_reroute.specs.Bounds.{IsTableAt}
use Rattle.ripup_reroute.specs.Working.{AreLoads}
use Rattle.ripup_reroute.proofs.passes.all_passes.Given as goal

abbrev pub invariant-loop-done : goal.invariant-loop-done
invariant-loop-done l = record {
  rerouted : AreRerouted l.problem l.numbers l.picks l.fn.trees l.trees;
  falling : AreFallingPasses l.problem l.numbers l.picks l.done l.fn.trees l.trees;
  loads : AreLoads l.problem l.trees l.numbers l.loads.items;
  builder : l.tools.builder.fpgas ≡ l.fn.tools.builder.fpgas;
  table : IsTableAt (board_of l.graph) l.loads.items l.tools.table;
}
