-- The baseline tree of a net: each of its FPGAs goes to the source by parent wires.
use Rattle.std.specs.Prelude.{◌≡◌, ℕ, ◌+◌, ◌<◌, ◌≤◌, ◌↔◌, List, [], ◌∷◌, length, Contains}
use Rattle.std.specs.List.Sorted.{IsStrictlyIncreasing}
use Rattle.tdm_problem.specs.Board.{Board}
use Rattle.tdm_problem.specs.Walk.{Links}
use Rattle.tdm_problem.specs.Legal.{source_of, terminals_of}
use Rattle.tdm_problem.specs.Trees.{tree_of}
use Rattle.tdm_problem.specs.Distance.{IsHopCount}

-- FPGA u is one hop nearer to the source than FPGA v
abbrev pub IsNearer : Board → ℕ → ℕ → ℕ → Type 0
IsNearer board source v u = (hops : ℕ) × IsHopCount board source u hops × IsHopCount board source v (hops + 1)

-- wire e joins FPGA v with an FPGA u one hop nearer to the source, and no wire of a smaller number does
pub record IsParent (board : Board) (source v e u : ℕ) : Type 0 where
  pub links : Links board e v u
  pub nearer : IsNearer board source v u
  pub least : (d x : ℕ) → Links board d v x → IsNearer board source v x → e ≤ d

-- the wires are those from FPGA v to FPGA u, each the parent wire of where it begins
abbrev pub IsParentChain : Board → ℕ → ℕ → List ℕ → ℕ → Type 0
IsParentChain board source v [] u = v ≡ u
IsParentChain board source v (e ∷ es) u = (x : ℕ) × IsParent board source v e x
    × IsParentChain board source x es u

-- wire e is on the parent chain of one of the FPGAs to the source
abbrev pub IsOnChain : Board → ℕ → List ℕ → ℕ → Type 0
IsOnChain board source fpgas e = (t : ℕ) × Contains fpgas t
    × ((es : List ℕ) × IsParentChain board source t es source × Contains es e)

-- the wires, rising, are the union of the parent chains of the FPGAs, each of which has one
pub record IsBaseTree (board : Board) (source : ℕ) (fpgas : List ℕ) (wires : List ℕ) : Type 0 where
  pub rising : IsStrictlyIncreasing wires
  pub reached : (t : ℕ) → Contains fpgas t → (es : List ℕ) × IsParentChain board source t es source
  pub exact : (e : ℕ) → Contains wires e ↔ IsOnChain board source fpgas e

-- each net of the board has its baseline tree
pub record AreBaseTrees (board : Board) (trees : List (List ℕ)) : Type 0 where
  pub nets : length trees ≡ length board.nets
  pub each : (n : ℕ) → n < length board.nets
      → IsBaseTree board (source_of board n) (terminals_of board n) (tree_of trees n)
