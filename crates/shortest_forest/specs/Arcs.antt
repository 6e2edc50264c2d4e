-- Walks over arcs: a wire in one direction has a length of its own.
use Rattle.std.specs.Prelude.{◌≡◌, ℕ, ◌+◌, ◌≤◌, Bool, true, false, List, [], ◌∷◌, slice_index_or}
use Rattle.tdm_problem.specs.Board.{Board}
use Rattle.tdm_problem.specs.Walk.{Links}

-- the length of a wire on the way from one of its ends to the other
abbrev pub Arcs : Type 0
Arcs = ℕ → ℕ → ℕ → ℕ

-- the arcs that are as long in both directions as their wire
abbrev pub both_ways : (ℕ → ℕ) → Arcs
both_ways wire_length e from to = wire_length e

-- the listed wires lead one after another from a to b, and are so long together in that direction
abbrev pub IsArcWalk : Board → Arcs → ℕ → List ℕ → ℕ → ℕ → Type 0
IsArcWalk board arcs a [] b total = (a ≡ b) × (total ≡ 0)
IsArcWalk board arcs a (e ∷ es) b total = (x : ℕ) × Links board e a x
    × ((rest : ℕ) × IsArcWalk board arcs x es b rest × (total ≡ arcs e a x + rest))

-- FPGA f is marked as a goal
abbrev pub IsGoal : List Bool → ℕ → Type 0
IsGoal goals f = slice_index_or goals f false ≡ true

-- from each FPGA every walk to a goal is at least so long
abbrev pub IsLowerBound : Board → Arcs → List Bool → (ℕ → ℕ) → Type 0
IsLowerBound board arcs goals bound = (f : ℕ) (es : List ℕ) (g total : ℕ) → IsGoal goals g
    → IsArcWalk board arcs f es g total → bound f ≤ total
