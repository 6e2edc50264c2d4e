use Rattle.std.specs.Prelude.{ℕ, ◌<◌, List, length, All, Contains}
use Rattle.tdm_problem.specs.declared.solution.WireUse.{WireUse}
use Rattle.tdm_problem.specs.Board.{Board}
use Rattle.tdm_problem.specs.Routing.{Routing, uses_of, wires_of, ratios_of, ratios_on}
use Rattle.tdm_problem.specs.Walk.{Joins}
use Rattle.tdm_problem.specs.Fit.{FitsLanes}
use Rattle.tdm_problem.specs.Legal.{IsEvenRatio, lanes_of, terminals_of}

-- the wires of net n join its FPGAs
abbrev pub IsJoined : Board → Routing → ℕ → Type 0
IsJoined board routing n = Joins board (Contains (wires_of (uses_of routing n))) (terminals_of board n)

-- all ratios of net n are positive and even
abbrev pub HasEvenRatios : Routing → ℕ → Type 0
HasEvenRatios routing n = All IsEvenRatio (ratios_of (uses_of routing n))

-- the ratios on wire e fit its lanes
abbrev pub IsFitting : Board → Routing → ℕ → Type 0
IsFitting board routing e = FitsLanes (ratios_on routing e) (lanes_of board e)

-- each number below the limit has the property
abbrev pub AllBelow : (ℕ → Type 0) → ℕ → Type 0
AllBelow Holds limit = (k : ℕ) → k < limit → Holds k

-- the first number below the limit without the property
pub record IsFirstWithout (Holds : ℕ → Type 0) (limit first : ℕ) : Type 0 where
  pub there : first < limit
  pub without : ¬ Holds first
  pub before : AllBelow Holds first

-- the use has a ratio that is not positive and even, and no use of a lower wire has one
pub record IsLowestBadUse (uses : List WireUse) (wire_use : WireUse) : Type 0 where
  pub there : Contains uses wire_use
  pub bad : ¬ IsEvenRatio wire_use.ratio
  pub lower : All (λ (u : WireUse). u.wire < wire_use.wire → IsEvenRatio u.ratio) uses

-- this use of net n is the first with a ratio that is not positive and even, nets rising and wires rising
-- within a net
pub record IsFirstBadUse (routing : Routing) (n : ℕ) (wire_use : WireUse) : Type 0 where
  pub net_there : n < length routing
  pub lowest : IsLowestBadUse (uses_of routing n) wire_use
  pub earlier : AllBelow (HasEvenRatios routing) n
