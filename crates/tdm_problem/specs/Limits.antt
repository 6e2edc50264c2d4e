-- How large a board may be, and the numbers that groups and nets have in rounds and certificates.
use Rattle.std.specs.Prelude.{ℕ, ◌^◌}

-- the most FPGAs
abbrev pub most_fpgas : ℕ
most_fpgas = 4096

-- the most wires
abbrev pub most_wires : ℕ
most_wires = 65536

-- the most nets
abbrev pub most_nets : ℕ
most_nets = 2 ^ 20

-- the most groups
abbrev pub most_groups : ℕ
most_groups = 2 ^ 20

-- the most FPGAs that all nets list together
abbrev pub most_listed_fpgas : ℕ
most_listed_fpgas = 2 ^ 24

-- the most nets that all groups list together
abbrev pub most_listed_nets : ℕ
most_listed_nets = 2 ^ 24

-- the largest weight of a group
abbrev pub most_weight : ℕ
most_weight = 2 ^ 40

-- the largest number of a net, by which it shares its wires
abbrev pub most_number : ℕ
most_number = 2 ^ 30
