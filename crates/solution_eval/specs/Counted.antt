use Rattle.std.specs.Prelude.{◌≡◌, ℕ, ◌<◌, Bool, true, false, List, length, slice_index_or}
use Rattle.std.specs.Ordering.{nat_cmp}
use Rattle.std.specs.FinMap as map
use Rattle.tdm_problem.specs.Routing.{Routing, ratios_on}
use Rattle.recip_sum.specs.Counts.{items}
use Rattle.recip_sum.specs.Items.{SameReciprocals}

-- the items counted for wire e
abbrev pub items_at : List (map.FinMap nat_cmp ℕ) → ℕ → List ℕ
items_at counts e = items (slice_index_or counts e map.empty)

-- wire e is one of those that are wanted
abbrev pub IsWanted : List Bool → ℕ → Type 0
IsWanted wanted e = slice_index_or wanted e false ≡ true

-- there are counts for each of the wires, and for each wanted one they hold the ratios on it
pub record CountsRatios (wanted : List Bool) (routing : Routing) (wires : ℕ)
    (counts : List (map.FinMap nat_cmp ℕ)) : Type 0 where
  pub whole : length counts ≡ wires
  pub each : (e : ℕ) → e < wires → IsWanted wanted e
      → SameReciprocals (items_at counts e) (ratios_on routing e)
