use Rattle.std.specs.Prelude.{ℕ, ◌+◌, ◌-◌, ◌/◌, ◌^◌, List, sum_by}

-- the reciprocal in units of 2^-64, rounded down
abbrev pub floor_of : ℕ → ℕ
floor_of ratio = 2 ^ 64 / ratio

-- the sum of the reciprocals, each rounded down
abbrev pub floor_sum : List ℕ → ℕ
floor_sum ratios = sum_by floor_of ratios

-- the reciprocal in units of 2^-64, rounded up
abbrev pub ceiling_of : ℕ → ℕ
ceiling_of ratio = (2 ^ 64 - 1) / ratio + 1

-- the sum of the reciprocals, each rounded up
abbrev pub ceiling_sum : List ℕ → ℕ
ceiling_sum ratios = sum_by ceiling_of ratios
