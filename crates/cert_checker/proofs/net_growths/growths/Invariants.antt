use Rattle.std.proofs.Common.{◌≡◌}
use Rattle.std.specs.Prelude.{slice_index}
use Rattle.board_graph.specs.Graph.{board_of, graph_of}
use Rattle.bound_cert.specs.Growth.{IsGrowth}
use Rattle.cert_checker.proofs.NetGrowthLaws.{AreGrown}
use Rattle.cert_checker.proofs.net_growths.growths.Given as goal

abbrev pub invariant-loop-i : goal.invariant-loop-i
invariant-loop-i l = AreGrown l.problem (slice_index l.lengths) l.weights l.marks.items l.i l.growths.items
    × IsGrowth (board_of (graph_of l.problem)) (slice_index l.lengths) l.last.fpgas.items l.last.growth
    × (l.grower.graph ≡ graph_of l.problem) × (l.grower.lengths ≡ l.lengths)
