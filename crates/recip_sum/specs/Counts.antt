use Rattle.std.specs.Prelude.{ℕ, ◌+◌, ◌-◌, ◌==◌, if◌then◌else◌, List, unwrap_or}
use Rattle.std.specs.Ordering.{nat_cmp}
use Rattle.std.specs.FinMap as map
use Rattle.recip_sum.specs.Items.{items_of}

-- how many items have the ratio
abbrev pub count_of : map.FinMap nat_cmp ℕ → ℕ → ℕ
count_of counts ratio = unwrap_or (map.get counts ratio) 0

-- the counts with one item of the ratio more
abbrev pub with_item : map.FinMap nat_cmp ℕ → ℕ → map.FinMap nat_cmp ℕ
with_item counts ratio = map.insert counts ratio (count_of counts ratio + 1)

-- the counts with one item of the ratio less; no ratio stays with no item
abbrev pub without_item : map.FinMap nat_cmp ℕ → ℕ → map.FinMap nat_cmp ℕ
without_item counts ratio =
    if count_of counts ratio == 1 then map.remove counts ratio
    else map.insert counts ratio (count_of counts ratio - 1)

-- all items, ratios rising
abbrev pub items : map.FinMap nat_cmp ℕ → List ℕ
items counts = items_of (map.entries counts)
