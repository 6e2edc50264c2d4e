-- A search over lengths that is under way.
use Rattle.std.specs.Prelude.{◌≡◌, ℕ, ◌+◌, ◌-◌, ◌<◌, ◌≤◌, ◌⊎◌, Bool, List, [], ◌∷◌, length, Option, Some, None, Contains, slice_index_or, slice_get, slice_set, sum_by, ◌↔◌, ◌≢◌, ◌*◌, ◌^◌, IsPermutation}
use Rattle.std.specs.declared.cmp.Reverse.{Reverse}
use Rattle.shortest_forest.specs.declared.label.Label.{Label}
use Rattle.tdm_problem.specs.Board.{Board}
use Rattle.tdm_problem.specs.Walk.{Links}
use Rattle.shortest_forest.specs.Arcs.{Arcs, IsArcWalk, IsGoal, IsLowerBound}

-- what is known of each FPGA, which are goals, and which wait to be settled, each with a key: the least first
pub record Labels : Type 0 where
  pub labels : List (Option Label)
  pub goals : List Bool
  pub queue : List (Reverse (ℕ × ℕ))

-- the label of FPGA f
abbrev pub label_at : Labels → ℕ → Option Label
label_at s f = slice_index_or s.labels f None

-- the distance of a label
abbrev pub distance_in : Option Label → Option ℕ
distance_in None = None
distance_in (Some label) = Some label.distance

-- the wire of a label
abbrev pub wire_in : Option Label → Option ℕ
wire_in None = None
wire_in (Some label) = label.wire

-- FPGA f has this label
abbrev pub HasLabel : Labels → ℕ → ℕ → Option ℕ → Type 0
HasLabel s f distance wire = label_at s f ≡ Some (record { distance = distance; wire = wire })

-- FPGA f has a label of this distance
abbrev pub IsAtLabel : Labels → ℕ → ℕ → Type 0
IsAtLabel s f distance = (wire : Option ℕ) × HasLabel s f distance wire

-- FPGA f is a source
abbrev pub IsSource : Labels → ℕ → Type 0
IsSource s f = HasLabel s f 0 None

-- FPGA f waits in the queue with this key
abbrev pub IsWaiting : Labels → ℕ → ℕ → Type 0
IsWaiting s f key = Contains s.queue (record { 0 = (key, f) })

-- FPGA f, at this distance, waits in the queue with a key that no walk on from there to a goal undercuts
abbrev pub WaitsInTime : Labels → (ℕ → ℕ) → ℕ → ℕ → Type 0
WaitsInTime s bound f distance = (key : ℕ) × IsWaiting s f key × (key ≤ distance + bound f)

-- a label of this distance at FPGA v is not needed: v has one that is no longer, or no walk on from there is
-- short enough
abbrev pub IsNoShorter : Labels → (ℕ → ℕ) → ℕ → ℕ → ℕ → Type 0
IsNoShorter s bound cap v distance = ((near : ℕ) × IsAtLabel s v near × (near ≤ distance))
    ⊎ (cap ≤ distance + bound v)

-- no arc from FPGA f, which has this distance, leads to a shorter label
abbrev pub IsSettled : Board → Arcs → (ℕ → ℕ) → ℕ → Labels → ℕ → ℕ → Type 0
IsSettled board arcs bound cap s f distance = (e v : ℕ) → Links board e f v
    → IsNoShorter s bound cap v (distance + arcs e f v)

-- the wires lead from FPGA f to a source, each the wire of the label where it begins
abbrev pub IsWayBack : Board → Labels → ℕ → List ℕ → ℕ → Type 0
IsWayBack board s f [] source = (f ≡ source) × IsSource s f
IsWayBack board s f (e ∷ es) source = (distance : ℕ) × HasLabel s f distance (Some e)
    × ((u : ℕ) × Links board e f u × IsWayBack board s u es source)

-- labels are lengths of ways from sources, at least, and what waits is an FPGA with a label, no longer than
-- its key
pub record IsLabelled (board : Board) (arcs : Arcs) (s : Labels) : Type 0 where
  pub count : length s.labels ≡ board.fpgas
  pub marks : length s.goals ≡ board.fpgas
  pub inside : (f key : ℕ) → IsWaiting s f key → f < board.fpgas
  pub keyed : (f key : ℕ) → IsWaiting s f key → (d : ℕ) × IsAtLabel s f d × (d ≤ key)
  pub back : (f d : ℕ) → IsAtLabel s f d → (es : List ℕ) × ((source : ℕ) × IsWayBack board s f es source)
  pub sources : (f d : ℕ) → HasLabel s f d None → d ≡ 0
  pub shorter : (f d e u : ℕ) → HasLabel s f d (Some e) → Links board e f u
      → (near : ℕ) × IsAtLabel s u near × (near + arcs e u f ≤ d)

-- FPGA f, at this distance, waits in the queue, or no walk on from there is short enough, or it is settled
-- and no goal
abbrev pub IsWaitingOrSettled : Board → Arcs → (ℕ → ℕ) → ℕ → Labels → ℕ → ℕ → Type 0
IsWaitingOrSettled board arcs bound cap s f d =
    WaitsInTime s bound f d ⊎ ((cap ≤ d + bound f)
    ⊎ ((¬ IsGoal s.goals f) × IsSettled board arcs bound cap s f d))

-- each FPGA with a label waits in the queue, or is not needed, or is settled and no goal
pub record IsUnderWay (board : Board) (arcs : Arcs) (bound : ℕ → ℕ) (cap : ℕ) (s : Labels) : Type 0 where
  pub labelled : IsLabelled board arcs s
  pub settled : (f d : ℕ) → IsAtLabel s f d → IsWaitingOrSettled board arcs bound cap s f d

-- a search is under way but for FPGA f, at this distance, which is taken from the queue and is no goal
pub record IsPassing (board : Board) (arcs : Arcs) (bound : ℕ → ℕ) (cap f d : ℕ) (s : Labels) : Type 0 where
  pub labelled : IsLabelled board arcs s
  pub here : IsAtLabel s f d
  pub no_goal : ¬ IsGoal s.goals f
  pub others : (x distance : ℕ) → x ≢ f → IsAtLabel s x distance
      → IsWaitingOrSettled board arcs bound cap s x distance

-- FPGA v gets a label and waits in the queue with this key
pub record IsLowered (v distance : ℕ) (wire : Option ℕ) (key : ℕ) (old new : Labels) : Type 0 where
  pub labels : new.labels ≡ slice_set old.labels v (Some (record { distance = distance; wire = wire }))
  pub goals : new.goals ≡ old.goals
  pub queue : IsPermutation (record { 0 = (key, v) } ∷ old.queue) new.queue

-- FPGA v waits in the queue once more, with this key
pub record IsQueued (v key : ℕ) (old new : Labels) : Type 0 where
  pub labels : new.labels ≡ old.labels
  pub goals : new.goals ≡ old.goals
  pub queue : IsPermutation (record { 0 = (key, v) } ∷ old.queue) new.queue

-- FPGA f stands at the front of the queue with this key
abbrev pub IsFront : Labels → ℕ → ℕ → Type 0
IsFront s key f = slice_get s.queue 0 ≡ Some (record { 0 = (key, f) })

-- FPGA f is taken from the queue
pub record IsTaken (key f : ℕ) (old new : Labels) : Type 0 where
  pub labels : new.labels ≡ old.labels
  pub goals : new.goals ≡ old.goals
  pub queue : IsPermutation old.queue (record { 0 = (key, f) } ∷ new.queue)

-- goals stay, and there are labels for as many FPGAs
pub record KeepsMarks (old new : Labels) : Type 0 where
  pub goals : new.goals ≡ old.goals
  pub count : length new.labels ≡ length old.labels

-- FPGA v gets a shorter label by wire e, or none is needed
abbrev pub IsReached : (ℕ → ℕ) → ℕ → ℕ → ℕ → ℕ → Labels → Labels → Type 0
IsReached bound cap v e distance old new = ((new ≡ old) × IsNoShorter old bound cap v distance)
    ⊎ (IsLowered v distance (Some e) (distance + bound v) old new × (distance < 2 ^ 64)
    × ((near : ℕ) → IsAtLabel old v near → distance < near))

-- how much labels can still fall, and how much keys can still rise: with each step of a search it gets less
abbrev pub label_weight : Option Label → ℕ
label_weight None = 2 ^ 64
label_weight (Some label) = label.distance

abbrev pub work_left : Labels → ℕ
work_left s = 2 ^ 66 * sum_by label_weight s.labels + sum_by (λ waiting. 2 ^ 65 - waiting.0.0) s.queue

-- a search goes on: the sources stay, and there is no more left to do
pub record GoesOn (old new : Labels) : Type 0 where
  pub marks : KeepsMarks old new
  pub sources : (f : ℕ) → IsSource new f ↔ IsSource old f
  pub work : work_left new ≤ work_left old

-- the goal is settled at a distance below the cap, and no walk on from a label to a goal is shorter
pub record IsNearest (board : Board) (arcs : Arcs) (bound : ℕ → ℕ) (cap : ℕ) (s : Labels)
    (goal : ℕ) : Type 0 where
  pub goal_there : goal < board.fpgas
  pub marked : IsGoal s.goals goal
  pub distance : ℕ
  pub label : IsAtLabel s goal distance
  pub below : distance < cap
  pub nearer_settled : (f key : ℕ) → IsWaiting s f key → distance ≤ key
  pub least : IsLowerBound board arcs s.goals bound → (f d : ℕ) (es : List ℕ) (g total : ℕ)
      → IsAtLabel s f d → IsGoal s.goals g → IsArcWalk board arcs f es g total → distance ≤ d + total

-- no walk on from a label to a goal is shorter than the cap, and what is nearer than the cap is settled
pub record AreFar (board : Board) (arcs : Arcs) (bound : ℕ → ℕ) (cap : ℕ) (s : Labels) : Type 0 where
  pub nearer_settled : (f key : ℕ) → IsWaiting s f key → cap ≤ key
  pub least : IsLowerBound board arcs s.goals bound → (f d : ℕ) (es : List ℕ) (g total : ℕ)
      → IsAtLabel s f d → IsGoal s.goals g → IsArcWalk board arcs f es g total → cap ≤ d + total

-- what holds of a search still does where something changed
abbrev pub StaysUnderWay : Labels → Labels → Type 0
StaysUnderWay old new = (board : Board) (arcs : Arcs) (bound : ℕ → ℕ) (cap : ℕ)
    → IsUnderWay board arcs bound cap old → IsUnderWay board arcs bound cap new

-- a search that has just begun, without a label, is under way at any lengths, bounds and caps
abbrev pub IsBegun : Labels → Type 0
IsBegun s = (board : Board) (arcs : Arcs) (bound : ℕ → ℕ) (cap : ℕ) → length s.labels ≡ board.fpgas
    → length s.goals ≡ board.fpgas → IsUnderWay board arcs bound cap s
