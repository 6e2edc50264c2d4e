-- How far the baseline has come, net by net.
use Rattle.std.specs.Prelude.{◌≡◌, ℕ, ◌<◌, ◌≤◌, ◌↔◌, List, [], length, sum_by, Contains, Option, Some, None, slice_index_or, Bool, true, false}
use Rattle.std.specs.List.Sorted.{IsStrictlyIncreasing}
use Rattle.tdm_problem.specs.Board.{Board}
use Rattle.tdm_problem.specs.Limits.{most_nets}
use Rattle.tdm_problem.specs.Walk.{IsConnectable}
use Rattle.tdm_problem.specs.Legal.{terminals_of, source_of}
use Rattle.tdm_problem.specs.Trees.{tree_of}
use Rattle.board_graph.specs.Graph.{Graph}
use Rattle.shortest_forest.specs.Reach.{Reach, IsHopForest}
use Rattle.shortest_forest.specs.Baseline.{IsBaseTree}
use Rattle.tdm_cli.specs.declared.baseline.TheConstants.{MAX_USES}

-- the first nets have baseline trees; up to the limit their uses are counted and the trees are kept
pub record AreBasedSoFar (board : Board) (nets : ℕ) (trees : List (List ℕ)) (used : ℕ) : Type 0 where
  pub all : List (List ℕ)
  pub count : length all ≡ nets
  pub each : (n : ℕ) → n < nets → IsBaseTree board (source_of board n) (terminals_of board n) (tree_of all n)
  pub joined : (n : ℕ) → n < nets → IsConnectable board (terminals_of board n)
  pub within : used ≤ MAX_USES → (used ≡ sum_by length all) × (trees ≡ all)
  pub over : MAX_USES < used → MAX_USES < sum_by length all

-- of the first nets the missing ones are those that no wires join; where none is missing, they have baseline
-- trees
pub record IsProgress (board : Board) (nets : ℕ) (trees : List (List ℕ)) (used : ℕ)
    (missing : List ℕ) : Type 0 where
  pub limit : length board.nets ≤ most_nets
  pub few : length trees ≤ nets
  pub rising : IsStrictlyIncreasing missing
  pub exact : (n : ℕ) → Contains missing n ↔ ((n < nets) × ¬ IsConnectable board (terminals_of board n))
  pub based : missing ≡ [] → AreBasedSoFar board nets trees used

-- there is a forest of least hops from this source
abbrev pub HasForestAt : Graph → List (Option Reach) → ℕ → Type 0
HasForestAt graph forests source = (reach : Reach) × (slice_index_or forests source None ≡ Some reach)
    × IsHopForest graph reach × (reach.root ≡ source)

-- there is a forest from the source of each of the first nets
abbrev pub HasForests : Graph → Board → ℕ → List (Option Reach) → Type 0
HasForests graph board nets forests = (n : ℕ) → n < nets → HasForestAt graph forests (source_of board n)

-- there is a mark for each FPGA, and the sources of the first nets are marked
pub record AreMarked (board : Board) (nets : ℕ) (marks : List Bool) : Type 0 where
  pub count : length marks ≡ board.fpgas
  pub marked : (n : ℕ) → n < nets → slice_index_or marks (source_of board n) false ≡ true

-- the forests of the first FPGAs are made where they are marked
pub record AreMade (graph : Graph) (marks : List Bool) (fpgas : ℕ) (forests : List (Option Reach))
    : Type 0 where
  pub count : length forests ≡ fpgas
  pub made : (f : ℕ) → f < fpgas → slice_index_or marks f false ≡ true → HasForestAt graph forests f
