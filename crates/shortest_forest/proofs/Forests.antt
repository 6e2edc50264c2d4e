-- A search's distances and nearest wires make a hop forest of its graph.
use Rattle.std.proofs.Common.{ℕ, ◌<◌, ap}
use Rattle.board_graph.specs.Graph.{Graph, IsGraph, board_of}
use Rattle.shortest_forest.specs.Reach.{Reach, AreHops, IsHopForest}
use Rattle.shortest_forest.specs.BreadthFirst.{IsAt}
use Rattle.shortest_forest.proofs.SameBoard.{HasHops-same}
use Rattle.shortest_forest.proofs.HopLaws.{AreNearest, HasHops-made}

pub IsHopForest-made : (graph : Graph) (reach : Reach) → IsGraph graph → reach.root < graph.fpgas
    → AreHops (board_of graph) reach.root reach.distances
    → ((f d : ℕ) → IsAt reach.distances f d → d < graph.fpgas)
    → AreNearest (board_of graph) reach.distances reach.parents → IsHopForest graph reach
IsHopForest-made graph reach is_graph below hops few nearest = record {
  on_board = λ board same. HasHops-same (board_of graph) board (ap (λ (g : Graph). g.wires) same)
      (ap (λ (g : Graph). g.fpgas) same) reach
      (HasHops-made (board_of graph) reach hops is_graph.wires nearest below few);
}
