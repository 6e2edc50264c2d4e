use Rattle.shortest_forest.proofs.PassLaws.{IsPassing}
use Rattle.shortest_forest.proofs.breadth_first.pass.Given as goal

abbrev pub invariant-loop-neighbour : goal.invariant-loop-neighbour
invariant-loop-neighbour l = IsPassing l.graph l.head l.fn.distances.items l.distances.items l.fn.queue.items
    l.queue.items l.neighbour-index
