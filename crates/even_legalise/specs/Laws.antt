use Rattle.std.specs.Prelude.{ℕ, ◌*◌, ◌≤◌, ◌^◌, List, map, sum_by, All}
use Rattle.tdm_problem.specs.Fit.{FitsLanes}

-- a ratio and the share of a lane that it stands for
pub record Shared : Type 0 where
  pub ratio : ℕ
  pub share : ℕ

-- ratios that are, times their shares, at least a lane of 2^64 units each fit where the shares together are
-- within the lanes
abbrev pub ShareLaw : Type 0
ShareLaw = (items : List Shared) (lanes : ℕ) → All (λ item. 2 ^ 64 ≤ item.ratio * item.share) items
    → sum_by (λ item. item.share) items ≤ lanes * 2 ^ 64 → FitsLanes (map (λ item. item.ratio) items) lanes
