use Rattle.std.specs.Prelude.{◌≡◌, ℕ, ◌-◌, ◌==◌, if◌then◌else◌, List, [], ◌∷◌, ◌++◌, length, replicate, sum_by, unwrap_or}
use Rattle.std.specs.BTreeMap.{is_at}
use Rattle.std.specs.Map.{lookup, remove_entry, set_value}
use Rattle.std.specs.Ordering.{nat_cmp}
use Rattle.tdm_problem.specs.Fit.{product, reciprocals}

-- the list with these entries of ratios and their numbers of items: each ratio as often as its number says
abbrev pub items_of : List (ℕ × ℕ) → List ℕ
items_of [] = []
items_of (e ∷ es) = replicate e.1 e.0 ++ items_of es

-- lists that fit the same lanes, as two orders of one list do: they have equal products, sums of reciprocals
-- and lengths,
-- and equal sums of whatever part each item counts for, so that they have each item equally often
pub record SameReciprocals (xs ys : List ℕ) : Type 0 where
  pub products : product xs ≡ product ys
  pub sums : reciprocals xs ≡ reciprocals ys
  pub lengths : length xs ≡ length ys
  pub parts : (part : ℕ → ℕ) → sum_by part xs ≡ sum_by part ys

-- how many items of the ratio the entries count
abbrev pub counted : ℕ → List (ℕ × ℕ) → ℕ
counted ratio es = unwrap_or (lookup (is_at (nat_cmp ratio)) es) 0

-- the entries with one item of the ratio less
abbrev pub one_less : ℕ → List (ℕ × ℕ) → List (ℕ × ℕ)
one_less ratio es =
    if counted ratio es == 1 then remove_entry (is_at (nat_cmp ratio)) es
    else set_value (is_at (nat_cmp ratio)) es (counted ratio es - 1)
