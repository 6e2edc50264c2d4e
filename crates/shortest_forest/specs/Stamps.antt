-- Labels that hold where their stamp is that of the search.
use Rattle.std.specs.Prelude.{ℕ, ◌≤◌, ◌==◌, List, Option, Some, None, All, if◌then◌else◌}
use Rattle.std.specs.Ordering.{nat_cmp, ordering_then}
use Rattle.std.specs.declared.cmp.Ordering.{Ordering}
use Rattle.std.specs.declared.cmp.Reverse.{Reverse}
use Rattle.shortest_forest.specs.declared.stamped.Stamped.{Stamped}
use Rattle.shortest_forest.specs.declared.label.Label.{Label}

-- the label, if it is from the search of this number
abbrev pub label_of : ℕ → Stamped → Option Label
label_of stamp l = if l.stamp == stamp then Some (record { distance = l.distance; wire = l.wire }) else None

-- no label is from a later search
abbrev pub AreNotLater : ℕ → List Stamped → Type 0
AreNotLater stamp labels = All (λ l. l.stamp ≤ stamp) labels

-- the order of the queue: the least distance comes first
abbrev pub queue_cmp : Reverse (ℕ × ℕ) → Reverse (ℕ × ℕ) → Ordering
queue_cmp x y = ordering_then (nat_cmp y.0.0 x.0.0) (nat_cmp y.0.1 x.0.1)
