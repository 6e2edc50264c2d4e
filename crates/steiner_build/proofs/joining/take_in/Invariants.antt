use Rattle.std.proofs.Common.{drop}
use Rattle.board_graph.specs.Graph.{board_of}
use Rattle.steiner_build.proofs.TakingLaws.{IsTaking}
use Rattle.steiner_build.proofs.joining.take_in.Given as goal

abbrev pub invariant-loop-e : goal.invariant-loop-e
invariant-loop-e l = IsTaking (board_of l.graph) l.goal l.f l.path (drop l.e-index l.path) l.fn.search
    l.search
