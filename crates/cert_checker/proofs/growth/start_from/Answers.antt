use Rattle.std.proofs.Common.{List, Bool, sym, subst}
use Rattle.board_graph.specs.Graph.{board_of}
use Rattle.steiner_build.specs.Joining.{HasNoGoals}
use Rattle.cert_checker.specs.Growing.{arcs_of}
use Rattle.cert_checker.proofs.Distances.{nothing-reached}
use Rattle.cert_checker.proofs.growth.start_from.Goals as goal

pub returns-clause-known : goal.returns-clause-known
returns-clause-known c = nothing-reached (board_of c.args.graph.now)
    (arcs_of c.args.lengths.now c.args.lengths.now) c.args.x c.reach_from.new.search c.in_ok-_none._none
    (subst (λ (goals : List Bool). HasNoGoals goals) (sym c.reach_from.ensures.goals) c.requires.none)
    c.in_ok-_none.ensures.reached c.in_ok-_none.ensures.all
