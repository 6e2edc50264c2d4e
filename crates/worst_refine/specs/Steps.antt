use Rattle.std.specs.Prelude.{ℕ, ◌+◌, ◌-◌, ◌<◌, ◌≤◌, ◌^◌, Bool, List, ◌∷◌, length}
use Rattle.std.specs.Ordering.{nat_cmp}
use Rattle.std.specs.FinMap as map
use Rattle.tdm_problem.specs.Fit.{FitsLanes}
use Rattle.tdm_problem.specs.Routing.{Routing, uses_of, ratios_on, with_ratio}
use Rattle.tdm_problem.specs.Tight.{wire_at, ratio_at}
use Rattle.recip_sum.specs.Counts.{items}
use Rattle.recip_sum.specs.Items.{SameReciprocals}
use Rattle.recip_sum.specs.LeastEven.{IsLeastEven}
use Rattle.recip_sum.specs.Rounded.{floor_of}
use Rattle.solution_eval.specs.Counted.{CountsRatios, IsWanted}
use Rattle.worst_refine.specs.Lowered.{IsLowered}
use Rattle.worst_refine.specs.Fitting.{HasFittingRatios}

-- with the ratio of a use lowered by 2 its wire has more than one lane takes
abbrev pub CannotBeLowered : Routing → (n place : ℕ) → Type 0
CannotBeLowered routing n place = 2 < ratio_at routing n place
    → ¬ FitsLanes (ratios_on (with_ratio routing n place (ratio_at routing n place - 2))
    (wire_at routing n place)) 1

-- the reciprocals rounded down, which sum to this, tell that the ratio cannot be lowered by 2
abbrev pub FloorsTell : (sum ratio : ℕ) → Type 0
FloorsTell sum ratio = 2 < ratio → 2 ^ 64 + floor_of ratio < sum + floor_of (ratio - 2)

-- the reciprocals of at most so many ratios, which rounded up sum to this at least, tell the same
abbrev pub CeilingsTell : (sum count ratio : ℕ) → Type 0
CeilingsTell sum count ratio = 2 < ratio → 2 ^ 64 + count + floor_of ratio < sum + floor_of (ratio - 2)

-- a ratio that can be lowered by 2 stands on a wire that is in doubt
abbrev pub AreInDoubt : (doubtful : List Bool) → Routing → Type 0
AreInDoubt doubtful routing = (n place : ℕ) → n < length routing → place < length (uses_of routing n)
    → ¬ IsWanted doubtful (wire_at routing n place) → CannotBeLowered routing n place

-- one item of the old ratio has got the least even ratio that fits beside the other items
pub record IsReplaced (before after : map.FinMap nat_cmp ℕ) (old new : ℕ) : Type 0 where
  pub rest : List ℕ
  pub was : SameReciprocals (old ∷ rest) (items before)
  pub now : SameReciprocals (items after) (new ∷ rest)
  pub least : IsLeastEven rest 1 new

-- the uses of net n from one place on, up to another, cannot be lowered any more, and what could not be
-- lowered cannot now
pub record IsStep (wires : ℕ) (doubtful : List Bool) (old new : Routing)
    (counts : List (map.FinMap nat_cmp ℕ)) (n start end : ℕ) : Type 0 where
  pub fitting : HasFittingRatios wires new
  pub lowered : IsLowered old new
  pub counted : CountsRatios doubtful new wires counts
  pub here : (place : ℕ) → start ≤ place → place < end → CannotBeLowered new n place
  pub kept : (m place : ℕ) → m < length old → place < length (uses_of old m)
      → CannotBeLowered old m place → CannotBeLowered new m place
