-- Laws on the ways back of a search, and on its cap.
use Rattle.std.specs.Prelude.{ℕ, ◌≤◌, List, reverse}
use Rattle.tdm_problem.specs.Board.{Board}
use Rattle.shortest_forest.specs.Arcs.{Arcs, IsArcWalk, IsLowerBound}
use Rattle.shortest_forest.specs.Labels.{Labels, IsAtLabel, IsWayBack, IsLabelled, IsUnderWay, IsNearest}

-- the way back from a label, turned round, leads over the arcs from a source, and is no longer than the label
-- says
abbrev pub WayLaw : Type 0
WayLaw = (board : Board) (arcs : Arcs) (s : Labels) → IsLabelled board arcs s
    → (f distance : ℕ) (es : List ℕ) (source : ℕ) → IsAtLabel s f distance → IsWayBack board s f es source
    → (total : ℕ) × IsArcWalk board arcs source (reverse es) f total × (total ≤ distance)

-- where the lower bounds are true, that of the nearest goal is just as long as its distance
abbrev pub NearestWayLaw : Type 0
NearestWayLaw = (board : Board) (arcs : Arcs) (bound : ℕ → ℕ) (cap : ℕ) (s : Labels) → IsLabelled board arcs s
    → IsLowerBound board arcs s.goals bound → (goal : ℕ) (near : IsNearest board arcs bound cap s goal)
    → (es : List ℕ) (source : ℕ) → IsWayBack board s goal es source
    → IsArcWalk board arcs source (reverse es) goal near.distance

-- a search stays under way where bounds rise and the cap falls
abbrev pub FallingCapLaw : Type 0
FallingCapLaw = (board : Board) (arcs : Arcs) (bound bound' : ℕ → ℕ) (cap cap' : ℕ) (s : Labels)
    → ((f : ℕ) → bound f ≤ bound' f) → cap' ≤ cap → IsUnderWay board arcs bound cap s
    → IsUnderWay board arcs bound' cap' s
