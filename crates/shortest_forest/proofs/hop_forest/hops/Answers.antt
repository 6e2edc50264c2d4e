use Rattle.std.proofs.Common.{ℕ, List, Option, subst}
use Rattle.board_graph.specs.Graph.{board_of}
use Rattle.shortest_forest.proofs.HopLaws.{AreNearest}
use Rattle.shortest_forest.proofs.Forests.{IsHopForest-made}
use Rattle.shortest_forest.proofs.hop_forest.hops.Goals as goal

pub returns-clause-hops : goal.returns-clause-hops
returns-clause-hops c =
    let P : List (Option ℕ) → Type 0 =
    λ ds. AreNearest (board_of c.args.graph.now) ds c.in_ok-parents.parents.items in
    let nearest = subst P c.deref.ensures.value (record {
      count = c.in_ok-parents.ensures.count;
      exact = c.in_ok-parents.ensures.exact;
    }) in
    IsHopForest-made c.args.graph.now (record {
      root = c.args.root;
      distances =
          c.in_ok-distances.distances.items;
      parents = c.in_ok-parents.parents.items;
    })
    c.in_ok-parents.ensures.graph c.requires c.in_ok-distances.ensures.hops c.in_ok-distances.ensures.few
    nearest
