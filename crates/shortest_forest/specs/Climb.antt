-- The parent chains that are collected for a baseline tree.
use Rattle.std.specs.Prelude.{◌≡◌, ◌≢◌, ℕ, Bool, true, false, List, length, Some, slice_index_or, AllPairs, Contains}
use Rattle.tdm_problem.specs.Board.{Board}
use Rattle.tdm_problem.specs.Walk.{Links}
use Rattle.shortest_forest.specs.Reach.{Reach, parent_of}

-- the number of FPGAs of the graph, and the wires of the baseline tree that was built last
pub record BaseBuilder : Type 0 where
  pub fpgas : ℕ
  pub wires : List ℕ

-- FPGA f is marked
abbrev pub IsMarked : List Bool → ℕ → Type 0
IsMarked marks f = slice_index_or marks f false ≡ true

-- the wires are the parent wires of the marked FPGAs, each once, and lead to FPGAs that are reached
pub record IsCollected (board : Board) (reach : Reach) (marks : List Bool) (wires : List ℕ) (reached : ℕ
    → Type 0) : Type 0 where
  pub count : length marks ≡ board.fpgas
  pub distinct : AllPairs (λ d e. d ≢ e) wires
  pub inside : (f e : ℕ) → IsMarked marks f → parent_of reach f ≡ Some e → Contains wires e
  pub onward : (f e u : ℕ) → IsMarked marks f → parent_of reach f ≡ Some e → Links board e f u → reached u
  pub only : (e : ℕ) → Contains wires e → (f : ℕ) × IsMarked marks f × (parent_of reach f ≡ Some e)
