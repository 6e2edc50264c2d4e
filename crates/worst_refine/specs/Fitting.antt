use Rattle.std.specs.Prelude.{◌≢◌, ℕ, ◌<◌, All, AllPairs}
use Rattle.tdm_problem.specs.Fit.{FitsLanes}
use Rattle.tdm_problem.specs.Legal.{IsEvenRatio}
use Rattle.tdm_problem.specs.Routing.{Routing, wires_of, ratios_of, ratios_on}

-- what a legal solution says of the ratios on this many wires of one lane each
pub record HasFittingRatios (wires : ℕ) (routing : Routing) : Type 0 where
  pub there : All (λ uses. All (λ u. u.wire < wires) uses) routing
  pub distinct : All (λ uses. AllPairs (λ d e. d ≢ e) (wires_of uses)) routing
  pub even : All (λ uses. All IsEvenRatio (ratios_of uses)) routing
  pub fits : (e : ℕ) → e < wires → FitsLanes (ratios_on routing e) 1
