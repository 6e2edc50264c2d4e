use Rattle.std.specs.Prelude.{◌≡◌, ℕ, ◌+◌, ◌≤◌, ◌⊎◌, List, [], ◌∷◌, ◌++◌, length, map, slice_range, All, AllPairs}
use Rattle.tdm_problem.specs.declared.pool.Spot.{Spot}

-- the row at a spot
abbrev pub row_at : List ℕ → Spot → List ℕ
row_at items spot = slice_range items spot.place (spot.place + spot.length)

-- the rows at the spots
abbrev pub rows_at : List ℕ → List Spot → List (List ℕ)
rows_at items spots = map (λ (spot : Spot). row_at items spot) spots

-- the row is not longer than its room, which is within the items
pub record IsRoomy (items : List ℕ) (spot : Spot) : Type 0 where
  pub short : spot.length ≤ spot.room
  pub within : spot.place + spot.room ≤ length items

-- no place belongs to both spots
abbrev pub AreApart : Spot → Spot → Type 0
AreApart a b = (a.place + a.room ≤ b.place) ⊎ (b.place + b.room ≤ a.place)

-- each spot has its room within the items, apart from all others
pub record IsPool (items : List ℕ) (spots : List Spot) : Type 0 where
  pub roomy : All (IsRoomy items) spots
  pub apart : AllPairs AreApart spots

-- the spot has the row behind the old items, with one spare place
pub record IsAppended (old row items : List ℕ) (spot : Spot) : Type 0 where
  pub items_are : items ≡ (old ++ row) ++ 0 ∷ []
  pub place_is : spot.place ≡ length old
  pub length_is : spot.length ≡ length row
  pub room_is : spot.room ≡ length row + 1
