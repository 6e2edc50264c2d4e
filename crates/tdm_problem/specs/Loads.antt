-- What the wires of a board carry where each net has a number, and what this costs.
use Rattle.std.specs.Prelude.{◌≡◌, ◌≢◌, ℕ, ◌+◌, ◌*◌, ◌<◌, ◌==◌, List, [], length, slice_index, slice_set, All, AllPairs, if◌then◌else◌}
use Rattle.std.specs.List.{list_any}
use Rattle.tdm_problem.specs.Board.{Board}
use Rattle.tdm_problem.specs.Distance.{length_of}
use Rattle.tdm_problem.specs.Sums.{sum_below}
use Rattle.tdm_problem.specs.Trees.{tree_of}

-- what a net with this number and this tree loads wire e with
abbrev pub load_by : (number : ℕ) → (tree : List ℕ) → (e : ℕ) → ℕ
load_by number tree e = if list_any (λ d. d == e) tree then number else 0

-- the load of wire e: the sum of the numbers of the nets whose tree has it
abbrev pub load_of : (trees : List (List ℕ)) → (numbers : List ℕ) → (e : ℕ) → ℕ
load_of trees numbers e =
    sum_below (length trees) (λ n. load_by (slice_index numbers n) (tree_of trees n) e)

-- the sum of the squares of the loads, over the wires of the board
abbrev pub load_cost : Board → (trees : List (List ℕ)) → (numbers : List ℕ) → ℕ
load_cost board trees numbers =
    sum_below (length board.wires) (λ e. load_of trees numbers e * load_of trees numbers e)

-- the trees without that of net n
abbrev pub without_net : (trees : List (List ℕ)) → (n : ℕ) → List (List ℕ)
without_net trees n = slice_set trees n []

-- the marginal length of wire e for net n: twice the load without that net, and the net's number
abbrev pub marginal_length : (trees : List (List ℕ)) → (numbers : List ℕ) → (n e : ℕ) → ℕ
marginal_length trees numbers n e = 2 * load_of (without_net trees n) numbers e + slice_index numbers n

-- the wires are wires of the board, none of them twice
pub record AreWiresOf (board : Board) (wires : List ℕ) : Type 0 where
  pub there : All (λ e. e < length board.wires) wires
  pub distinct : AllPairs (λ d e. d ≢ e) wires

-- a net that gets these wires in place of its tree costs its number times their marginal length, beside the
-- others
abbrev pub CostLaw : Type 0
CostLaw = (board : Board) (trees : List (List ℕ)) (numbers : List ℕ) (n : ℕ) (wires : List ℕ)
    → n < length trees → AreWiresOf board wires
    → load_cost board (slice_set trees n wires) numbers
    ≡ load_cost board (without_net trees n) numbers
    + slice_index numbers n * length_of (marginal_length trees numbers n) wires

-- so the cost changes by the net's number times the difference between the marginal lengths of its old and
-- new wires
abbrev pub MovedLaw : Type 0
MovedLaw = (board : Board) (trees : List (List ℕ)) (numbers : List ℕ) (n : ℕ) (wires : List ℕ)
    → n < length trees → AreWiresOf board (tree_of trees n) → AreWiresOf board wires
    → load_cost board (slice_set trees n wires) numbers
    + slice_index numbers n * length_of (marginal_length trees numbers n) (tree_of trees n)
    ≡ load_cost board trees numbers
    + slice_index numbers n * length_of (marginal_length trees numbers n) wires
