use Rattle.shortest_forest.proofs.ArcWays.{way-law, nearest-way-law}
use Rattle.shortest_forest.proofs.laws.ways_back_are_walks.Goals as goal

pub returns : goal.returns
returns c = record {
  way = λ board arcs s labelled f distance es source at back. way-law board arcs s labelled f distance es
      source at back;
  nearest = λ board arcs bound cap s labelled lower goal near es source back.
      nearest-way-law board arcs s labelled bound cap lower goal near es source back;
}
