-- What builds trees, and how long a tree may be.
use Rattle.std.specs.Prelude.{ℕ, ◌≤◌, List, sum_by, Contains}
use Rattle.tdm_problem.specs.Board.{Board}
use Rattle.tdm_problem.specs.Walk.{IsWalk, AnyWire, Joins}
use Rattle.tdm_problem.specs.Distance.{IsDistance, length_of}

-- the number of FPGAs of the graph, and the wires of the tree that was grown last
pub record Builder : Type 0 where
  pub fpgas : ℕ
  pub wires : List ℕ

-- some walk from a to b is no longer than this
abbrev pub IsReachedWithin : Board → (ℕ → ℕ) → ℕ → ℕ → ℕ → Type 0
IsReachedWithin board wire_length a b far = (es : List ℕ) × IsWalk board (AnyWire board) a es b
    × (length_of wire_length es ≤ far)

-- walks from the start, one to each of the FPGAs, are together at least this long
abbrev pub IsWithinWalks : Board → (ℕ → ℕ) → ℕ → List ℕ → ℕ → Type 0
IsWithinWalks board wire_length start fpgas number = (far : ℕ → ℕ)
    → ((t : ℕ) → Contains fpgas t → IsReachedWithin board wire_length start t (far t))
    → number ≤ sum_by far fpgas

-- the least distances of the FPGAs from the start sum to at least this number
abbrev pub IsWithinDistances : Board → (ℕ → ℕ) → ℕ → List ℕ → ℕ → Type 0
IsWithinDistances board wire_length start fpgas number = (distance : ℕ → ℕ)
    → ((t : ℕ) → Contains fpgas t → IsDistance board wire_length start t (distance t))
    → number ≤ sum_by distance fpgas

-- every set of wires that joins the FPGAs is at least this long
abbrev pub IsWithinJoining : Board → (ℕ → ℕ) → List ℕ → ℕ → Type 0
IsWithinJoining board wire_length fpgas number = (wires : List ℕ) → Joins board (Contains wires) fpgas
    → number ≤ length_of wire_length wires
