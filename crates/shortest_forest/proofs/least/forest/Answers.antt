use Rattle.std.proofs.Common.{refl}
use Rattle.board_graph.specs.Graph.{board_of}
use Rattle.shortest_forest.specs.Reach.{Reach}
use Rattle.shortest_forest.proofs.HopLaws.{Links-below}
use Rattle.shortest_forest.proofs.ForestLaws.{HasLeast-made, IsLeastForest-made}
use Rattle.shortest_forest.proofs.least.forest.Goals as goal

pub returns-clause-least : goal.returns-clause-least
returns-clause-least g c =
    let graph = c.args.graph.now in
    let l = g.Q.Lengths.length c.args.lengths.now in
    let reach : Reach = record {
      root = c.args.root;
      distances = c.in_ok-distances.distances.items;
      parents = c.in_ok-parents.parents.items;
    } in
    let made = HasLeast-made (board_of graph) l c.args.root c.settle_all.new.search
    c.in_ok-settle_all.ensures.settled reach refl c.fpgas-fpgas.result c.fpgas-fpgas.ensures.value
    c.requires.root (λ e f u links. Links-below (board_of graph) c.fpgas-fpgas.ensures.graph.wires e f u
    links) c.in_ok-distances.ensures.count c.in_ok-distances.ensures.exact
    c.in_ok-parents.ensures.count c.in_ok-parents.ensures.exact in
    IsLeastForest-made graph l reach made
