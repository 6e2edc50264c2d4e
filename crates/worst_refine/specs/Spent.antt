use Rattle.std.specs.Prelude.{◌≡◌, ℕ, ◌+◌, ◌<◌, ◌^◌, min, List, length, slice_index}
use Rattle.tdm_problem.specs.Routing.{Routing, ratios_on}
use Rattle.recip_sum.specs.Rounded.{ceiling_sum}
use Rattle.worst_refine.specs.Fitting.{HasFittingRatios}
use Rattle.worst_refine.specs.Lowered.{IsLowered}

-- for each wire the sum of the reciprocals of its ratios, each rounded up; a sum above 2^64 counts as 2^64 +
-- 1
pub record IsSpent (routing : Routing) (wires : ℕ) (spent : List ℕ) : Type 0 where
  pub whole : length spent ≡ wires
  pub each : (e : ℕ) → e < wires → slice_index spent e ≡ min (ceiling_sum (ratios_on routing e)) (2 ^ 64 + 1)

-- even ratios of these wires still fit, none is above the old, and the sums are those of the new ones
pub record IsSureStep (wires : ℕ) (old new : Routing) (spent : List ℕ) : Type 0 where
  pub fitting : HasFittingRatios wires new
  pub lowered : IsLowered old new
  pub sums : IsSpent new wires spent
