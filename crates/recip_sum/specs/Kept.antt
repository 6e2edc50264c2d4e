use Rattle.std.specs.Prelude.{◌≡◌, ℕ, ◌+◌, ◌<◌, ◌≤◌, ◌^◌, min, List, All, length}
use Rattle.std.specs.List.Sorted.{IsStrictlySortedBy}
use Rattle.std.specs.Map.{keys_of, values_of}
use Rattle.std.specs.Ordering.{nat_cmp}
use Rattle.recip_sum.specs.Items.{items_of}
use Rattle.recip_sum.specs.Rounded.{floor_sum}

-- what a ratio may be
abbrev pub IsRatio : ℕ → Type 0
IsRatio ratio = (0 < ratio) × (ratio < 2 ^ 32)

-- the entries count positive numbers of items of positive ratios, which are `total` in all and have `floors`
-- as the sum of
-- their reciprocals rounded down; where there are entries there is room for a term for each and one more
pub record AreCounts (entries : List (ℕ × ℕ)) (total floors room : ℕ) : Type 0 where
  pub ordered : IsStrictlySortedBy nat_cmp (keys_of entries)
  pub ratios : All IsRatio (keys_of entries)
  pub positive : All (λ count. 0 < count) (values_of entries)
  pub sum : total ≡ length (items_of entries)
  pub rounded : floors ≡ floor_sum (items_of entries)
  pub few : total ≤ 2 ^ 20
  pub space : length entries + min (length entries) 1 ≤ room
