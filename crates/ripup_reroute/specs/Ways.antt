-- Lower bounds of walks to the goals that are left, the least entry of a table at a scale, and why they are
-- true.
use Rattle.std.proofs.Common.{◌≡◌, ℕ, zero, suc, ◌*◌, ◌/◌, ◌^◌, ◌<◌, ◌≤◌, Bool, List, ap, ⊎_elim, arith}
use Rattle.std.specs.Prelude.{slice_index, min}
use Rattle.std.proofs.Math.Nat.{mul-le-mul_right}
use Rattle.std.proofs.lemmas.Bool.{cases_lt}
use Rattle.tdm_problem.specs.Board.{Board}
use Rattle.tdm_problem.specs.Distance.{length_of}
use Rattle.tdm_problem.specs.Walk.{IsWalk, AnyWire}
use Rattle.shortest_forest.specs.Arcs.{IsGoal, IsLowerBound, both_ways}
use Rattle.shortest_forest.proofs.WayLaws.{arc_walk-to_walk}
use Rattle.ripup_reroute.specs.declared.table.Table.{Table}
use Rattle.ripup_reroute.specs.Bounds.{entry_of, bound_at}

-- the entry of the FPGAs t and f
abbrev pub entry_at : Table → (t f : ℕ) → ℕ
entry_at table t f = entry_of table.distances.items table.fpgas t f

-- the least entry of FPGA f and one of the first listed FPGAs, so many
abbrev pub least_entry : Table → (fpgas : List ℕ) → (f : ℕ) → (count : ℕ) → ℕ
least_entry table fpgas f zero = 2 ^ 51
least_entry table fpgas f (suc n) = min (entry_at table (slice_index fpgas n) f) (least_entry table fpgas f n)

-- FPGA t is one of the first listed FPGAs, so many
abbrev pub IsAmong : (fpgas : List ℕ) → (count t : ℕ) → Type 0
IsAmong fpgas count t = (i : ℕ) × (i < count) × (slice_index fpgas i ≡ t)

-- the goals are among the first listed FPGAs, so many, and no walk to one of these is shorter than the bound
pub record AreWays (board : Board) (wire_length : ℕ → ℕ) (goals : List Bool) (table : Table) (scale : ℕ)
    (fpgas : List ℕ) (count : ℕ) : Type 0 where
  pub among : (g : ℕ) → IsGoal goals g → IsAmong fpgas count g
  pub long : (t f : ℕ) (es : List ℕ) → IsAmong fpgas count t → IsWalk board (AnyWire board) f es t
      → bound_at table scale t f ≤ length_of wire_length es

-- no entry is less than the least
pub least-at : (table : Table) (fpgas : List ℕ) (f n i : ℕ) → i < n
    → least_entry table fpgas f n ≤ entry_at table (slice_index fpgas i) f
least-at table fpgas f zero i below = absurd (omega (arith, below))
least-at table fpgas f (suc n) i below =
    ⊎_elim
    (λ (earlier : i < n). omega (arith, least-at table fpgas f n i earlier))
    (λ (last : n ≤ i).
    let same : i ≡ n = omega (arith, last, below) in
    omega (arith, ap (λ (k : ℕ). entry_at table (slice_index fpgas k) f) same))
    (cases_lt i n)

-- so the least at the scale is at most as long as each walk to a goal
pub ways-below : (board : Board) (wire_length : ℕ → ℕ) (goals : List Bool) (table : Table) (scale : ℕ)
    (fpgas : List ℕ) (count : ℕ) → AreWays board wire_length goals table scale fpgas count
    → IsLowerBound board (both_ways wire_length) goals (λ f. least_entry table fpgas f count * scale / 4096)
ways-below board wire_length goals table scale fpgas count ways f es g total marked walk =
    let among = ways.among g marked in
    let way = arc_walk-to_walk board wire_length f es g total walk in
    omega (
      arith,
      mul-le-mul_right scale (least-at table fpgas f count among.0 among.1),
      ap (λ (t : ℕ). bound_at table scale t f) among.2,
      ways.long g f es among way.0,
      way.1,
    )
