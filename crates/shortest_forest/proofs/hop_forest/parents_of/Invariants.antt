use Rattle.std.proofs.Common.{◌≡◌, ℕ, ◌<◌, length, None, slice_index_or}
use Rattle.std.specs.Prelude.{MatchOption}
use Rattle.board_graph.specs.Graph.{board_of}
use Rattle.shortest_forest.specs.BreadthFirst.{LeadsNearer, IsFirstNearer}
use Rattle.shortest_forest.proofs.hop_forest.parents_of.Given as goal

abbrev pub invariant-loop-f : goal.invariant-loop-f
invariant-loop-f l =
    (length l.parents.items ≡ l.f)
    × ((f : ℕ) → f < l.f → MatchOption (slice_index_or l.parents.items f None) ((e d : ℕ)
    → ¬ LeadsNearer (board_of l.graph) l.distances f e d)
    (λ e. IsFirstNearer (board_of l.graph) l.distances f e))
