-- How far a net reaches: the farthest of its FPGAs from its source, over lengths of wires or by hops.
use Rattle.std.specs.Prelude.{◌≡◌, ℕ, ◌<◌, ◌≤◌, List, length, slice_index, sum_by, Contains}
use Rattle.tdm_problem.specs.Board.{Board}
use Rattle.tdm_problem.specs.Distance.{IsDistance}
use Rattle.tdm_problem.specs.Legal.{terminals_of, source_of}

-- each FPGA of net n is within this distance of its source, and one of them is at exactly this distance
pub record IsDepthOver (board : Board) (wire_length : ℕ → ℕ) (n depth : ℕ) : Type 0 where
  pub within : (f : ℕ) → Contains (terminals_of board n) f
      → (far : ℕ) × IsDistance board wire_length (source_of board n) f far × (far ≤ depth)
  pub reached : (f : ℕ) × Contains (terminals_of board n) f
      × IsDistance board wire_length (source_of board n) f depth

-- the same by hops
abbrev pub IsDepth : Board → (n depth : ℕ) → Type 0
IsDepth board n depth = IsDepthOver board (λ _. 1) n depth

-- the depth of net n
abbrev pub depth_of : (depths : List ℕ) → (n : ℕ) → ℕ
depth_of depths n = slice_index depths n

-- the numbers are the depths of the nets
pub record AreDepths (board : Board) (depths : List ℕ) : Type 0 where
  pub count : length depths ≡ length board.nets
  pub each : (n : ℕ) → n < length board.nets → IsDepth board n (depth_of depths n)

-- the depths of a group's nets together
abbrev pub group_depth : (depths group : List ℕ) → ℕ
group_depth depths group = sum_by (depth_of depths) group
