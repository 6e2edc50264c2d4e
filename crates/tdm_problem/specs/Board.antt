use Rattle.std.specs.Prelude.{◌≢◌, ℕ, ◌<◌, ◌≤◌, not, ◌==◌, List, [], ◌∷◌, length, filter, sum_by, All, AllPairs}
use Rattle.tdm_problem.specs.declared.wire.Wire.{Wire}
use Rattle.tdm_problem.specs.Limits.{most_fpgas, most_wires, most_nets, most_groups, most_listed_fpgas, most_listed_nets}

-- a board: how many FPGAs it has, its wires, the FPGAs of each net with the source first, and the nets of
-- each group
pub record Board : Type 0 where
  pub fpgas : ℕ
  pub wires : List Wire
  pub nets : List (List ℕ)
  pub groups : List (List ℕ)

-- the wire joins two different FPGAs of the board
pub record IsWireOf (fpgas : ℕ) (wire : Wire) : Type 0 where
  pub a_there : wire.a < fpgas
  pub b_there : wire.b < fpgas
  pub no_loop : wire.a ≢ wire.b

-- the row lists at least one number, none of them twice, and each below the limit
pub record IsRowBelow (limit : ℕ) (row : List ℕ) : Type 0 where
  pub some : 0 < length row
  pub distinct : AllPairs (λ x y. x ≢ y) row
  pub below : All (λ x. x < limit) row

-- the board keeps to the limits; a wire joins two different FPGAs of it, a net lists FPGAs of it and a group
-- nets of it, each at least one and none twice
pub record IsBoard (board : Board) : Type 0 where
  pub fpga_limit : board.fpgas ≤ most_fpgas
  pub wire_limit : length board.wires ≤ most_wires
  pub net_limit : length board.nets ≤ most_nets
  pub group_limit : length board.groups ≤ most_groups
  pub net_total : sum_by length board.nets ≤ most_listed_fpgas
  pub group_total : sum_by length board.groups ≤ most_listed_nets
  pub wires : All (IsWireOf board.fpgas) board.wires
  pub nets : All (IsRowBelow board.fpgas) board.nets
  pub groups : All (IsRowBelow (length board.nets)) board.groups

-- the numbers of a list, each once, in the place of its first
abbrev pub without_repeats : List ℕ → List ℕ
without_repeats [] = []
without_repeats (x ∷ xs) = x ∷ filter (λ y. not (x == y)) (without_repeats xs)
