-- What a forest of least hops says.
use Rattle.std.specs.Prelude.{◌≡◌, ℕ, ◌<◌, ◌⊎◌, List, length, Option, Some, None, MatchOption, slice_index_or}
use Rattle.tdm_problem.specs.Board.{Board}
use Rattle.tdm_problem.specs.Walk.{IsWalk, AnyWire}
use Rattle.tdm_problem.specs.Distance.{IsHopCount}
use Rattle.board_graph.specs.Graph.{Graph, graph_of}
use Rattle.shortest_forest.specs.Baseline.{IsParent, IsParentChain}

-- a root, and for each FPGA its distance from the root and its parent wire
pub record Reach : Type 0 where
  pub root : ℕ
  pub distances : List (Option ℕ)
  pub parents : List (Option ℕ)

-- the distance of FPGA f
abbrev pub distance_of : Reach → ℕ → Option ℕ
distance_of reach f = slice_index_or reach.distances f None

-- the parent wire of FPGA f
abbrev pub parent_of : Reach → ℕ → Option ℕ
parent_of reach f = slice_index_or reach.parents f None

-- no walk leads from a to b
abbrev pub HasNoWalk : Board → ℕ → ℕ → Type 0
HasNoWalk board a b = (es : List ℕ) → ¬ IsWalk board (AnyWire board) a es b

-- the distances are the numbers of hops from a source, and None where no walk leads
pub record AreHops (board : Board) (source : ℕ) (distances : List (Option ℕ)) : Type 0 where
  pub count : length distances ≡ board.fpgas
  pub exact : (f : ℕ) → f < board.fpgas
      → MatchOption (slice_index_or distances f None) (HasNoWalk board source f) (IsHopCount board source f)

-- the distances and parent wires are those of the board from the root, and each parent chain is shorter than
-- the board has FPGAs
pub record HasHops (board : Board) (reach : Reach) : Type 0 where
  pub root : reach.root < board.fpgas
  pub distances : AreHops board reach.root reach.distances
  pub count : length reach.parents ≡ board.fpgas
  pub parents : (f : ℕ) → f < board.fpgas
      → MatchOption (parent_of reach f) ((f ≡ reach.root) ⊎ (distance_of reach f ≡ None))
      (λ e. (u : ℕ) × IsParent board reach.root f e u)
  pub chains : (f d : ℕ) → distance_of reach f ≡ Some d
      → (es : List ℕ) × IsParentChain board reach.root f es reach.root × (length es ≡ d) × (d < board.fpgas)

-- the distances and parent wires are those of each board with these FPGAs and wires
pub record IsHopForest (graph : Graph) (reach : Reach) : Type 0 where
  pub on_board : (board : Board) → graph ≡ graph_of board → HasHops board reach
