use Rattle.std.specs.Prelude.{ℕ, ◌+◌, ◌*◌, ◌≤◌, List, [], ◌∷◌}

-- the product of all
abbrev pub product : List ℕ → ℕ
product [] = 1
product (r ∷ rs) = r * product rs

-- the sum of the reciprocals, times the product of all
abbrev pub reciprocals : List ℕ → ℕ
reciprocals [] = 0
reciprocals (r ∷ rs) = product rs + r * reciprocals rs

-- the reciprocals of the ratios sum to at most the number of lanes; this is meant for ratios above 0, as
-- those of a legal solution are
abbrev pub FitsLanes : List ℕ → ℕ → Type 0
FitsLanes ratios lanes = reciprocals ratios ≤ lanes * product ratios
