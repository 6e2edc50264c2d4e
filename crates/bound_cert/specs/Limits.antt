-- How large the numbers of a certificate may be.
use Rattle.std.specs.Prelude.{ℕ, ◌-◌, ◌^◌}

-- the largest length of a wire
abbrev pub most_length : ℕ
most_length = 2 ^ 48

-- the largest unit of a certificate by hops
abbrev pub most_unit : ℕ
most_unit = 2 ^ 20

-- the most potentials
abbrev pub most_potentials : ℕ
most_potentials = 4096

-- the largest value of a potential, and the largest number of a text
abbrev pub most_potential_value : ℕ
most_potential_value = 2 ^ 60 - 1

-- the most values that all potentials of a certificate for a board have together
abbrev pub most_potential_values : ℕ
most_potential_values = 2 ^ 24

-- the weight of each group where all have the same
abbrev pub uniform_weight : ℕ
uniform_weight = 2 ^ 20
