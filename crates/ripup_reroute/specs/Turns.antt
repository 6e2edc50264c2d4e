-- Rip-up and reroute: turns of nets, and passes of turns.
use Rattle.std.specs.Prelude.{◌≡◌, ℕ, zero, suc, ◌*◌, ◌<◌, ◌≤◌, ◌⊎◌, List, [], ◌∷◌, slice_index, slice_set, sum_by, Contains}
use Rattle.std.specs.List.Sorted.{IsStrictlyIncreasing}
use Rattle.tdm_problem.specs.Board.{Board}
use Rattle.tdm_problem.specs.Distance.{IsDistance, length_of}
use Rattle.tdm_problem.specs.Legal.{source_of, terminals_of}
use Rattle.tdm_problem.specs.Loads.{load_cost, marginal_length}
use Rattle.tdm_problem.specs.Trees.{tree_of}
use Rattle.tdm_problem.specs.Walk.{IsMinimalTree}

-- net n's number times the marginal length of its tree is at most its number times the sum of the least
-- marginal lengths of walks from its first FPGA to the others
abbrev pub IsShortFor : Board → (numbers : List ℕ) → (n : ℕ) → (trees : List (List ℕ)) → Type 0
IsShortFor board numbers n trees = (distance : ℕ → ℕ)
    → ((t : ℕ) → Contains (terminals_of board n) t
    → IsDistance board (marginal_length trees numbers n) (source_of board n) t (distance t))
    → slice_index numbers n * length_of (marginal_length trees numbers n) (tree_of trees n)
    ≤ slice_index numbers n * sum_by distance (terminals_of board n)

-- a turn of net n: all other trees stay, and its own stays or becomes another minimal tree, wires rising,
-- with which the cost is smaller; whether it stayed or not, it is short then
pub record IsTurn (board : Board) (numbers : List ℕ) (n : ℕ) (trees new : List (List ℕ)) : Type 0 where
  pub others : new ≡ slice_set trees n (tree_of new n)
  pub own : (tree_of new n ≡ tree_of trees n)
      ⊎ (IsMinimalTree board (tree_of new n) (terminals_of board n) × IsStrictlyIncreasing (tree_of new n)
      × (load_cost board new numbers < load_cost board trees numbers))
  pub short : IsShortFor board numbers n new

-- a pass: a turn of each of the nets, in order
abbrev pub IsPass : Board → (numbers picks : List ℕ) → (trees new : List (List ℕ)) → Type 0
IsPass board numbers [] trees new = trees ≡ new
IsPass board numbers (n ∷ picks) trees new =
    (next : List (List ℕ)) × IsTurn board numbers n trees next × IsPass board numbers picks next new

-- so many passes over the nets lead from the trees to the new ones
abbrev pub ArePasses : Board → (numbers picks : List ℕ) → (passes : ℕ) → (trees new : List (List ℕ)) → Type 0
ArePasses board numbers picks zero trees new = trees ≡ new
ArePasses board numbers picks (suc k) trees new =
    (next : List (List ℕ)) × IsPass board numbers picks trees next × ArePasses board numbers picks k next new

-- so many passes, each of which makes the cost smaller
abbrev pub AreFallingPasses : Board → (numbers picks : List ℕ) → (passes : ℕ) → (trees new : List (List ℕ))
    → Type 0
AreFallingPasses board numbers picks zero trees new = trees ≡ new
AreFallingPasses board numbers picks (suc k) trees new =
    (next : List (List ℕ)) × IsPass board numbers picks trees next
    × (load_cost board next numbers < load_cost board trees numbers)
    × AreFallingPasses board numbers picks k next new

-- fewer than so many passes, each of which makes the cost smaller, lead from the trees to the new ones, over
-- which a pass changes nothing
pub record ComesToRest (board : Board) (numbers picks : List ℕ) (passes : ℕ)
    (trees new : List (List ℕ)) : Type 0 where
  pub done : ℕ
  pub fewer : done < passes
  pub falling : AreFallingPasses board numbers picks done trees new
  pub rest : IsPass board numbers picks new new
