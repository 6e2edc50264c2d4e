use Rattle.std.proofs.Common.{◌≡◌, ℕ, ◌<◌, length, None, slice_index_or}
use Rattle.shortest_forest.specs.Labels.{label_at, distance_in}
use Rattle.shortest_forest.proofs.least.distances_of.Given as goal

abbrev pub invariant-loop-f : goal.invariant-loop-f
invariant-loop-f l =
    (length l.distances.items ≡ l.f)
    × ((f : ℕ) → f < l.f → slice_index_or l.distances.items f None ≡ distance_in (label_at l.search f))
