-- Lower bounds of walks from a table of distances.
use Rattle.std.specs.Prelude.{◌≡◌, ℕ, ◌+◌, ◌*◌, ◌/◌, ◌^◌, ◌<◌, ◌≤◌, List, length, slice_index, false, replicate, min, Option, Some, None, All}
use Rattle.tdm_problem.specs.Board.{Board, IsWireOf}
use Rattle.tdm_problem.specs.Limits.{most_fpgas}
use Rattle.tdm_problem.specs.Distance.{length_of}
use Rattle.tdm_problem.specs.Walk.{IsWalk, AnyWire}
use Rattle.ripup_reroute.specs.declared.table.Table.{Table}

-- the length of wire e when the table was made: twice its load
abbrev pub tabled_length : Table → (e : ℕ) → ℕ
tabled_length table e = 2 * slice_index table.loads.items e + 0

-- the entry of the FPGAs a and b
abbrev pub entry_of : (distances : List ℕ) → (fpgas a b : ℕ) → ℕ
entry_of distances fpgas a b = slice_index distances (a * fpgas + b)

-- the entry for a distance, the greatest where no walk leads
abbrev pub row_entry : Option ℕ → ℕ
row_entry None = 2 ^ 51
row_entry (Some d) = min d (2 ^ 51)

-- no entry is longer than a walk between its FPGAs, at the lengths when the table was made
abbrev pub AreBelowWalks : Board → (wire_length : ℕ → ℕ) → (distances : List ℕ) → Type 0
AreBelowWalks board wire_length distances = (a b : ℕ) (es : List ℕ) → a < board.fpgas → b < board.fpgas
    → IsWalk board (AnyWire board) a es b → entry_of distances board.fpgas a b ≤ length_of wire_length es

-- a table for the board, which has an entry for each two FPGAs or none at all
pub record IsTable (board : Board) (table : Table) : Type 0 where
  pub few : board.fpgas ≤ most_fpgas
  pub inside : All (IsWireOf board.fpgas) board.wires
  pub fpgas : table.fpgas ≡ board.fpgas
  pub count : length table.loads.items ≡ length board.wires
  pub light : All (λ x. x ≤ 2 ^ 50) table.loads.items
  pub full : 0 < length table.distances.items → length table.distances.items ≡ board.fpgas * board.fpgas
  pub small : All (λ d. d ≤ 2 ^ 51) table.distances.items
  pub below : AreBelowWalks board (tabled_length table) table.distances.items
  pub scale : table.scale ≤ 4096
  pub labels : length table.search.labels ≡ board.fpgas
  pub goals : table.search.goals ≡ replicate board.fpgas false

-- each wire is at least so many 4096ths as long as when the table was made
abbrev pub IsScaled : Table → (scale : ℕ) → (wire_length : ℕ → ℕ) → Type 0
IsScaled table scale wire_length = (e : ℕ) → tabled_length table e * scale ≤ 4096 * wire_length e

-- a table whose bounds are true beside these loads
pub record IsTableAt (board : Board) (loads : List ℕ) (table : Table) : Type 0 where
  pub table_is : IsTable board table
  pub scaled : IsScaled table table.scale (λ e. 2 * slice_index loads e + 0)

-- the bound of walks between FPGAs t and f at a scale
abbrev pub bound_at : Table → (scale t f : ℕ) → ℕ
bound_at table scale t f = entry_of table.distances.items table.fpgas t f * scale / 4096
