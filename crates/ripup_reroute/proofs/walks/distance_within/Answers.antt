use Rattle.std.proofs.Common.{◌+◌, ◌*◌}
use Rattle.std.specs.Prelude.{slice_index}
use Rattle.board_graph.specs.Graph.{board_of}
use Rattle.ripup_reroute.proofs.Reaching.{pair-least}
use Rattle.ripup_reroute.proofs.walks.distance_within.Goals as goal

pub returns-in-Some-clause-least : goal.returns-in-Some-clause-least
returns-in-Some-clause-least c =
    pair-least (board_of c.args.graph.now) (λ e. 2 * slice_index c.args.lengths.now.loads.now e
    + c.args.lengths.now.own) c.args.a c.args.b c.in-Some.distance
    (rw c.in-Some.is at c.in_ok-distance.ensures.grown).2

pub returns-in-None-clause-least : goal.returns-in-None-clause-least
returns-in-None-clause-least c =
    pair-least (board_of c.args.graph.now) (λ e. 2 * slice_index c.args.lengths.now.loads.now e
    + c.args.lengths.now.own) c.args.a c.args.b c.args.cap
    (rw c.in-None.is at c.in_ok-distance.ensures.grown).0
