use Rattle.std.proofs.Common.{ℕ, ◌≤◌}
use Rattle.shortest_forest.specs.LastGoal.{IsLimited}
use Rattle.shortest_forest.proofs.Passing.{IsPassingOn}
use Rattle.shortest_forest.proofs.last.pass_below.Given as goal

abbrev pub invariant-loop-neighbour : goal.invariant-loop-neighbour
invariant-loop-neighbour g l =
    IsPassingOn l.graph (g.A.ArcLengths.arc_length l.arcs) (λ _. 0) l.limit l.f l.distance l.neighbour-index
    l.fn.search l.search
    × (l.limit ≤ l.cap)
    × ((whole : ℕ) → IsLimited whole l.cap l.fn.search → IsLimited whole l.limit l.search)
