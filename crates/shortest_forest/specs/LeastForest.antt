-- What a forest of least lengths says.
use Rattle.std.specs.Prelude.{◌≡◌, ◌≢◌, ℕ, ◌+◌, ◌<◌, ◌⊎◌, List, [], ◌∷◌, length, Some, None, MatchOption}
use Rattle.tdm_problem.specs.Board.{Board}
use Rattle.tdm_problem.specs.Walk.{Links}
use Rattle.tdm_problem.specs.Distance.{IsDistance}
use Rattle.board_graph.specs.Graph.{Graph, graph_of}
use Rattle.shortest_forest.specs.Reach.{Reach, distance_of, parent_of, HasNoWalk}

-- wire e leads from FPGA f to one whose distance is less by the length of the wire
abbrev pub LeadsNearerBy : Board → (ℕ → ℕ) → Reach → ℕ → ℕ → Type 0
LeadsNearerBy board wire_length reach f e = (u : ℕ) × Links board e f u
    × ((d : ℕ) × (distance_of reach u ≡ Some d)
    × (distance_of reach f ≡ Some (d + wire_length e)))

-- the wires lead from FPGA f to the root, each the parent wire of where it begins
abbrev pub IsWayUp : Board → Reach → ℕ → List ℕ → Type 0
IsWayUp board reach f [] = f ≡ reach.root
IsWayUp board reach f (e ∷ es) = (parent_of reach f ≡ Some e)
    × ((u : ℕ) × Links board e f u × IsWayUp board reach u es)

-- distances are the least lengths of walks from the root, and parent wires lead there
pub record HasLeast (board : Board) (wire_length : ℕ → ℕ) (reach : Reach) : Type 0 where
  pub root : reach.root < board.fpgas
  pub distance_count : length reach.distances ≡ board.fpgas
  pub distances : (f : ℕ) → f < board.fpgas → MatchOption (distance_of reach f)
      (HasNoWalk board reach.root f) (IsDistance board wire_length reach.root f)
  pub parent_count : length reach.parents ≡ board.fpgas
  pub parents : (f : ℕ) → f < board.fpgas → MatchOption (parent_of reach f)
      ((f ≡ reach.root) ⊎ (distance_of reach f ≡ None))
      (λ e. (f ≢ reach.root) × LeadsNearerBy board wire_length reach f e)
  pub ways : (f d : ℕ) → distance_of reach f ≡ Some d
      → (es : List ℕ) × IsWayUp board reach f es × (length es < board.fpgas)

-- the distances and parent wires are those of each board with these FPGAs and wires
pub record IsLeastForest (graph : Graph) (wire_length : ℕ → ℕ) (reach : Reach) : Type 0 where
  pub on_board : (board : Board) → graph ≡ graph_of board → HasLeast board wire_length reach
