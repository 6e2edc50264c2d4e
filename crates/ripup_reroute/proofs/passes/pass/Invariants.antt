use Rattle.std.proofs.Common.{◌≡◌}
use Rattle.board_graph.specs.Graph.{board_of}
use Rattle.ripup_reroute.specs.Bounds.{IsTableAt}
use Rattle.ripup_reroute.specs.Working.{AreLoads}
use Rattle.ripup_reroute.proofs.PassLaws.{IsPassing}
use Rattle.ripup_reroute.proofs.passes.pass.Given as goal

abbrev pub invariant-loop-n : goal.invariant-loop-n
invariant-loop-n l = record {
  passing : IsPassing l.problem l.numbers l.picks l.n-index l.fn.trees l.trees l.moved;
  loads : AreLoads l.problem l.trees l.numbers l.loads.items;
  builder : l.tools.builder.fpgas ≡ l.fn.tools.builder.fpgas;
  table : IsTableAt (board_of l.graph) l.loads.items l.tools.table;
}
