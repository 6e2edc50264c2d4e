use Rattle.std.proofs.Common.{◌≡◌, ℕ, ◌<◌, length, None, slice_index_or}
use Rattle.shortest_forest.specs.Labels.{label_at, wire_in}
use Rattle.shortest_forest.proofs.least.wires_of.Given as goal

abbrev pub invariant-loop-f : goal.invariant-loop-f
invariant-loop-f l =
    (length l.wires.items ≡ l.f)
    × ((f : ℕ) → f < l.f → slice_index_or l.wires.items f None ≡ wire_in (label_at l.search f))
