use Rattle.std.specs.Prelude.{ℕ, ◌<◌, List, ◌∷◌}
use Rattle.tdm_problem.specs.Fit.{FitsLanes}
use Rattle.tdm_problem.specs.Legal.{IsEvenRatio}

-- the least even ratio with which one more item fits the lanes
pub record IsLeastEven (items : List ℕ) (lanes ratio : ℕ) : Type 0 where
  pub even : IsEvenRatio ratio
  pub fits : FitsLanes (ratio ∷ items) lanes
  pub least : (lower : ℕ) → IsEvenRatio lower → lower < ratio → ¬ FitsLanes (lower ∷ items) lanes
