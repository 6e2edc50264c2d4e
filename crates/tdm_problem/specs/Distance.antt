use Rattle.std.specs.Prelude.{◌≡◌, ℕ, ◌≤◌, List, sum_by}
use Rattle.tdm_problem.specs.Board.{Board}
use Rattle.tdm_problem.specs.Walk.{IsWalk, AnyWire}

-- the sum of the lengths of the wires
abbrev pub length_of : (ℕ → ℕ) → List ℕ → ℕ
length_of wire_length es = sum_by wire_length es

-- some walk from a to b has this length, and none is shorter
pub record IsDistance (board : Board) (wire_length : ℕ → ℕ) (a b distance : ℕ) : Type 0 where
  pub walk : (es : List ℕ) × IsWalk board (AnyWire board) a es b × (length_of wire_length es ≡ distance)
  pub least : (es : List ℕ) → IsWalk board (AnyWire board) a es b → distance ≤ length_of wire_length es

-- the least number of wires of a walk from a to b
abbrev pub IsHopCount : Board → ℕ → ℕ → ℕ → Type 0
IsHopCount board a b hops = IsDistance board (λ _. 1) a b hops
