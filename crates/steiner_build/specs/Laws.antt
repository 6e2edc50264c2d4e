-- Laws on trees that grow, and on how long they are.
use Rattle.std.specs.Prelude.{◌≡◌, ℕ, ◌<◌, List, [], ◌∷◌, ◌++◌, length, Contains}
use Rattle.tdm_problem.specs.Board.{Board}
use Rattle.tdm_problem.specs.Walk.{Links, IsWalk, AnyWire, IsMinimalTree}
use Rattle.steiner_build.specs.Growth.{IsTree, IsBranch}
use Rattle.steiner_build.specs.Building.{IsWithinWalks, IsWithinDistances, IsWithinJoining}

-- the wires of the board join FPGAs of it
abbrev pub StaysInside : Board → Type 0
StaysInside board = (e a b : ℕ) → Links board e a b → a < board.fpgas

-- a tree with a path from a new terminal to it is a minimal tree of its terminals and the new one
abbrev pub GrowthLaw : Type 0
GrowthLaw = (board : Board) (wires fpgas terminals : List ℕ) → StaysInside board → 0 < length terminals
    → IsTree board wires (Contains fpgas) (Contains terminals)
    → (t : ℕ) (es : List ℕ) → IsBranch board (Contains fpgas) t es
    → IsMinimalTree board (es ++ wires) (t ∷ terminals)

-- a path without repeats is a minimal tree of its ends
abbrev pub PathLaw : Type 0
PathLaw = (board : Board) → StaysInside board → (a b : ℕ) (es : List ℕ) → b < board.fpgas
    → IsBranch board (λ f. f ≡ b) a es → IsMinimalTree board es (a ∷ b ∷ [])

-- where there is a walk, there is one with fewer wires than the board has FPGAs
abbrev pub ShortWalkLaw : Type 0
ShortWalkLaw = (board : Board) → StaysInside board → (a b : ℕ) (es : List ℕ) → b < board.fpgas
    → IsWalk board (AnyWire board) a es b
    → (fs : List ℕ) × IsWalk board (AnyWire board) a fs b × (length fs < board.fpgas)

-- what no walks from the first of two terminals undercut, no wires that join these do
abbrev pub JoiningLaw : Type 0
JoiningLaw = (board : Board) (wire_length : ℕ → ℕ) (a b number : ℕ)
    → IsWithinWalks board wire_length a (a ∷ b ∷ []) number
    → IsWithinJoining board wire_length (a ∷ b ∷ []) number

-- nor do the least distances
abbrev pub DistanceLaw : Type 0
DistanceLaw = (board : Board) (wire_length : ℕ → ℕ) (start : ℕ) (fpgas : List ℕ) (number : ℕ)
    → IsWithinWalks board wire_length start fpgas number
    → IsWithinDistances board wire_length start fpgas number
