use Rattle.std.proofs.Common.{◌≡◌, ℕ, ◌+◌, ◌^◌, ◌<◌, ◌≤◌, length}
use Rattle.std.specs.Prelude.{slice_index, All}
use Rattle.shortest_forest.specs.Labels.{label_at, distance_in}
use Rattle.ripup_reroute.specs.Bounds.{row_entry}
use Rattle.ripup_reroute.proofs.table.write_row.Given as goal

abbrev pub invariant-loop-f : goal.invariant-loop-f
invariant-loop-f l = record {
  size : length l.distances.items ≡ length l.fn.distances.items;
  small : All (λ d. d ≤ 2 ^ 51) l.distances.items;
  before : (i : ℕ) → i < l.place → slice_index l.distances.items i ≡ slice_index l.fn.distances.items i;
  row : (k : ℕ) → k < l.f → slice_index l.distances.items (l.place + k)
      ≡ row_entry (distance_in (label_at l.search k));
}
