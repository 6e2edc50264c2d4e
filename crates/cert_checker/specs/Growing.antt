-- How FPGAs grow over what is left of the lengths of wires.
use Rattle.std.specs.Prelude.{◌≡◌, ◌≢◌, ℕ, ◌+◌, ◌-◌, ◌*◌, ◌^◌, ◌<◌, ◌≤◌, ◌⊎◌, ◌↔◌, nat_lt, if◌then◌else◌, Bool, min, List, ◌∷◌, length, drop, slice_index, Option, Some, None, Contains, All}
use Rattle.tdm_problem.specs.Board.{Board}
use Rattle.tdm_problem.specs.Walk.{Links, IsWalk, AnyWire}
use Rattle.board_graph.specs.Graph.{Graph}
use Rattle.shortest_forest.specs.declared.label.Label.{Label}
use Rattle.shortest_forest.specs.Arcs.{Arcs, IsGoal}
use Rattle.shortest_forest.specs.Labels.{Labels, label_at, IsAtLabel}
use Rattle.bound_cert.specs.Growth.{IsReach, IsHeight, worn, GrowOver}

-- a graph and the lengths of its wires
pub record Lengths : Type 0 where
  pub graph : Graph
  pub lengths : List ℕ

-- the rests of arcs: those of the wires on the way to the end of the greater number, and on the way back
abbrev pub arcs_of : (up down : List ℕ) → Arcs
arcs_of up down e from to = if nat_lt from to then slice_index up e else slice_index down e

-- how much nearer a label is than the reach
abbrev pub height_of : Option Label → (reach : ℕ) → ℕ
height_of None reach = 0
height_of (Some label) reach = reach - label.distance

-- the height of FPGA f after a search
abbrev pub height_in : Labels → (reach f : ℕ) → ℕ
height_in s reach f = height_of (label_at s f) reach

-- just the FPGAs of the list are goals
abbrev pub AreGoals : List ℕ → List Bool → Type 0
AreGoals live goals = (f : ℕ) → IsGoal goals f ↔ Contains live f

-- FPGA x reaches the nearest goal, and the search has the heights of all FPGAs
pub record HasReached (board : Board) (rests : Arcs) (x : ℕ) (s : Labels) (reach : ℕ) : Type 0 where
  pub reaches : (live : List ℕ) → AreGoals live s.goals → IsReach board rests x live reach
  pub heights : (f : ℕ) → IsHeight board rests x reach f (height_in s reach f)

-- the search has a label for each FPGA that wires lead to from FPGA x, and the heights for any reach
pub record HasDistances (board : Board) (rests : Arcs) (x : ℕ) (s : Labels) : Type 0 where
  pub there : (f : ℕ) (es : List ℕ) → f < board.fpgas → IsWalk board (AnyWire board) x es f
      → (d : ℕ) × IsAtLabel s f d
  pub below : (f d : ℕ) → IsAtLabel s f d → d < 2 ^ 64 - 2 ^ 51
  pub heights : (reach f : ℕ) → reach < 2 ^ 64 - 2 ^ 51 + 1
      → IsHeight board rests x reach f (height_in s reach f)

-- of the labels of some FPGAs this is the least distance, None where none of them has a label
abbrev pub IsLeastOf : Labels → (among : ℕ → Type 0) → Option ℕ → Type 0
IsLeastOf s among None = (f d : ℕ) → among f → ¬ IsAtLabel s f d
IsLeastOf s among (Some least) = ((f : ℕ) × among f × IsAtLabel s f least)
    × ((f d : ℕ) → among f → IsAtLabel s f d → least ≤ d)

-- the lesser of two distances, where None is more than any
abbrev pub nearer : Option ℕ → Option ℕ → Option ℕ
nearer None b = b
nearer (Some a) None = Some a
nearer (Some a) (Some b) = Some (min a b)

-- no wires of the board lead from FPGA x to a goal
abbrev pub ReachesNone : Board → (x : ℕ) → Labels → Type 0
ReachesNone board x s = (f : ℕ) (es : List ℕ) → IsGoal s.goals f → ¬ IsWalk board (AnyWire board) x es f

-- the fall of the heights is taken from the rest of each arc that begins at FPGA f, and from no other
pub record IsWornAt (board : Board) (heights : ℕ → ℕ) (f : ℕ) (old new : Arcs) : Type 0 where
  pub here : (e u : ℕ) → Links board e f u → new e f u ≡ worn old heights e f u
  pub others : (e v u : ℕ) → Links board e v u → v ≢ f → new e v u ≡ old e v u

-- the FPGAs at the other ends of the wires at FPGA f are listed where they have a height
abbrev pub HasNear : Board → (heights : ℕ → ℕ) → (f : ℕ) → (listed : List ℕ) → Type 0
HasNear board heights f listed = (e u : ℕ) → Links board e f u → 0 < heights u → Contains listed u

-- the fall of the heights is taken from the rest of each arc
abbrev pub IsWorn : Board → (heights : ℕ → ℕ) → (old new : Arcs) → Type 0
IsWorn board heights old new = (e v u : ℕ) → Links board e v u → new e v u ≡ worn old heights e v u

-- the rest of one arc is less by so much, and no other of another wire or direction changed
pub record IsTakenOff (e from to fall : ℕ) (old new : Arcs) : Type 0 where
  pub here : new e from to ≡ old e from to - fall
  pub wires : (d v u : ℕ) → d ≢ e → new d v u ≡ old d v u
  pub back : new e to from ≡ old e to from

-- rests are at most the lengths, and less only on wires that are listed
pub record AreListed (lengths up down listed : List ℕ) : Type 0 where
  pub up_count : length up ≡ length lengths
  pub down_count : length down ≡ length lengths
  pub there : All (λ e. e < length lengths) listed
  pub up_short : (e : ℕ) → slice_index up e ≤ slice_index lengths e
  pub down_short : (e : ℕ) → slice_index down e ≤ slice_index lengths e
  pub whole : (e : ℕ) → ((slice_index up e ≡ slice_index lengths e)
      × (slice_index down e ≡ slice_index lengths e))
      ⊎ Contains listed e

-- wires that were listed are, and rests of others stay
abbrev pub StaysListed : (up down listed up' down' listed' : List ℕ) → Type 0
StaysListed up down listed up' down' listed' =
    (lengths : List ℕ) → AreListed lengths up down listed → AreListed lengths up' down' listed'

-- what grew so far, and what is still to grow
pub record IsGrowing (board : Board) (root : ℕ) (growing : List ℕ) (start : Arcs) (i growth : ℕ)
    (rests : Arcs) (goals : List Bool) : Type 0 where
  pub goals_are : AreGoals (root ∷ drop i growing) goals
  pub follows : (rest : ℕ) → GrowOver board root (drop i growing) rests rest
      → GrowOver board root growing start (growth + rest)
  pub small : growth ≤ i * 2 ^ 64
