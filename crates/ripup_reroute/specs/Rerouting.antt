-- What rerouting promises.
use Rattle.std.specs.Prelude.{◌≡◌, ℕ, ◌<◌, ◌≤◌, Bool, true, false, List, [], ◌∷◌, length, slice_set, Contains}
use Rattle.tdm_problem.specs.Board.{Board}
use Rattle.tdm_problem.specs.Legal.{terminals_of}
use Rattle.tdm_problem.specs.Loads.{load_cost, AreWiresOf}
use Rattle.tdm_problem.specs.Trees.{tree_of, AreTreesFor}
use Rattle.tdm_problem.specs.Walk.{Joins, IsMinimalTree}
use Rattle.ripup_reroute.specs.Turns.{IsShortFor, AreFallingPasses, ComesToRest}

-- each net has a minimal tree of wires of the board
pub record AreMinimalTrees (board : Board) (trees : List (List ℕ)) : Type 0 where
  pub for_board : AreTreesFor board trees
  pub minimal : (n : ℕ) → n < length board.nets → IsMinimalTree board (tree_of trees n) (terminals_of board n)

-- what holds after rerouting, whether it came to its end or memory was wanting: the trees are minimal, nets
-- that were not picked keep theirs, and the cost has not risen
pub record AreRerouted (board : Board) (numbers picks : List ℕ) (trees new : List (List ℕ)) : Type 0 where
  pub minimal : AreMinimalTrees board new
  pub unpicked : (n : ℕ) → ¬ Contains picks n → tree_of new n ≡ tree_of trees n
  pub not_above : load_cost board new numbers ≤ load_cost board trees numbers

-- net n is settled: on two FPGAs no set of wires that joins them costs less, and in any case its tree is
-- short
pub record IsSettledFor (board : Board) (numbers : List ℕ) (n : ℕ) (trees : List (List ℕ)) : Type 0 where
  pub two : (a b : ℕ) (wires : List ℕ) → terminals_of board n ≡ a ∷ b ∷ []
      → AreWiresOf board wires → Joins board (Contains wires) (a ∷ b ∷ [])
      → load_cost board trees numbers ≤ load_cost board (slice_set trees n wires) numbers
  pub short : IsShortFor board numbers n trees

-- each picked net is settled
abbrev pub IsSettled : Board → (numbers picks : List ℕ) → (trees : List (List ℕ)) → Type 0
IsSettled board numbers picks trees = (n : ℕ) → Contains picks n → IsSettledFor board numbers n trees

-- what so many passes come to: the cost, and whether one of them changes nothing; if not, each makes the cost
-- smaller
pub record IsOutcome (board : Board) (numbers picks : List ℕ) (passes : ℕ) (trees new : List (List ℕ))
    (settled : Bool)
    (cost : ℕ) : Type 0 where
  pub cost_is : cost ≡ load_cost board new numbers
  pub settles : settled ≡ true → IsSettled board numbers picks new
  pub rests : settled ≡ true → ComesToRest board numbers picks passes trees new
  pub falls : settled ≡ false → AreFallingPasses board numbers picks passes trees new
