-- How a tree grows while a search is under way: its sources are the FPGAs that the tree reaches.
use Rattle.std.specs.Prelude.{◌≡◌, ◌≢◌, ℕ, ◌≤◌, ◌⊎◌, ◌++◌, ◌↔◌, Bool, false, cond, List, sum_by, slice_set, slice_index_or, All, Contains, IsPermutation, ◌+◌, ◌^◌, ◌<◌}
use Rattle.tdm_problem.specs.Board.{Board}
use Rattle.tdm_problem.specs.Walk.{IsWalk, AnyWire}
use Rattle.tdm_problem.specs.Distance.{length_of}
use Rattle.shortest_forest.specs.Arcs.{IsGoal}
use Rattle.shortest_forest.specs.Labels.{Labels, IsSource}
use Rattle.steiner_build.specs.Growth.{IsTree, IsOn, IsBranch, IsApart}
use Rattle.steiner_build.specs.Building.{IsReachedWithin}

-- how many goals there are
abbrev pub goal_count : List Bool → ℕ
goal_count goals = sum_by (λ goal. cond goal 1 0) goals

-- no FPGA is a goal
abbrev pub HasNoGoals : List Bool → Type 0
HasNoGoals goals = (f : ℕ) → slice_index_or goals f false ≡ false

-- the goals are the terminals other than the start
abbrev pub AreOthers : List ℕ → ℕ → List Bool → Type 0
AreOthers terminals start goals = (f : ℕ) → IsGoal goals f ↔ (Contains terminals f × (f ≢ start))

-- the FPGAs on the path of these wires from f become sources, its end left out
abbrev pub IsTakenIn : Board → ℕ → List ℕ → Labels → Labels → Type 0
IsTakenIn board f path old new = (x : ℕ) → IsSource new x ↔ (IsOn board f path x ⊎ IsSource old x)

-- every walk from a source to a goal is at least this long
abbrev pub IsWithinGoals : Board → (ℕ → ℕ) → Labels → ℕ → Type 0
IsWithinGoals board wire_length s number = (a g : ℕ) (es : List ℕ) → IsSource s a → IsGoal s.goals g
    → IsWalk board (AnyWire board) a es g → number ≤ length_of wire_length es

-- the nearest goal is joined with the sources by a least path
pub record IsJoinedBy (board : Board) (wire_length : ℕ → ℕ) (old new : Labels) (wires wires' : List ℕ)
    (distance : ℕ) : Type 0 where
  pub goal : ℕ
  pub path : List ℕ
  pub marked : IsGoal old.goals goal
  pub branch : IsBranch board (IsSource old) goal path
  pub appended : wires' ≡ wires ++ path
  pub taken_in : IsTakenIn board goal path old new
  pub goals : new.goals ≡ slice_set old.goals goal false
  pub total : distance ≡ length_of wire_length path
  pub least : IsWithinGoals board wire_length old distance

-- a terminal that is no goal any more
abbrev pub IsJoined : List ℕ → List Bool → ℕ → Type 0
IsJoined terminals goals t = Contains terminals t × (slice_index_or goals t false ≡ false)

-- some FPGAs, none twice, to which no walks from the start are together shorter than the number
pub record IsSpent (board : Board) (wire_length : ℕ → ℕ) (start : ℕ) (joined : ℕ
    → Type 0) (number : ℕ) : Type 0 where
  pub ends : List ℕ
  pub distinct : IsApart ends
  pub there : (t : ℕ) → Contains ends t → joined t
  pub within : (far : ℕ → ℕ) → ((t : ℕ) → Contains ends t → IsReachedWithin board wire_length start t (far t))
      → number ≤ sum_by far ends

-- the wires are a tree of the joined terminals, of this length; the goals are the other terminals
pub record IsJoining (board : Board) (wire_length : ℕ → ℕ) (start : ℕ) (terminals : List ℕ) (s : Labels)
    (wires : List ℕ) (total : ℕ) : Type 0 where
  pub ordered : List ℕ
  pub moved : IsPermutation ordered wires
  pub tree : IsTree board ordered (IsSource s) (IsJoined terminals s.goals)
  pub root : IsSource s start
  pub start_joined : IsJoined terminals s.goals start
  pub goals : (f : ℕ) → IsGoal s.goals f → Contains terminals f
  pub listed : All (AnyWire board) wires
  pub long : total ≡ length_of wire_length wires
  pub spent : IsSpent board wire_length start (IsJoined terminals s.goals) total

-- to some of the FPGAs no walk from the start is shorter than the number less 2^63, and no tree is that long
abbrev pub IsSomeBeyond : Board → (ℕ → ℕ) → ℕ → List ℕ → ℕ → Type 0
IsSomeBeyond board wire_length start fpgas number = (t : ℕ) × Contains fpgas t
    × ((es : List ℕ) → IsWalk board (AnyWire board) start es t → number < length_of wire_length es + 2 ^ 63)
