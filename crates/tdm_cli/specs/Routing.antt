-- What `route` writes of a board: a solution and a certificate, however they were found.
use Rattle.std.specs.Prelude.{◌≡◌, ℕ, ◌<◌, ◌≤◌, List, length, sum_by}
use Rattle.tdm_problem.specs.Board.{Board}
use Rattle.tdm_problem.specs.Routing.{Routing, uses_of, wires_of, IsFor}
use Rattle.tdm_problem.specs.Walk.{IsMinimalTree}
use Rattle.tdm_problem.specs.Legal.{IsLegal, terminals_of}
use Rattle.tdm_problem.specs.Value.{value_of}
use Rattle.even_legalise.specs.Uniform.{uniform_routing}
use Rattle.solution_text.specs.Sayable.{IsSayable}
use Rattle.shortest_forest.specs.Baseline.{AreBaseTrees}
use Rattle.bound_cert.specs.Limits.{most_potential_values}
use Rattle.bound_cert.specs.Certificate.{Cert, IsCert, IsCertFor}
use Rattle.bound_cert.specs.Valid.{IsValid}
use Rattle.bound_cert.specs.Bound.{IsBound}
use Rattle.bound_cert.specs.Floors.{IsHopFloor, IsShareFloor}
use Rattle.cert_checker.specs.Answer.{IsLowerBound}
use Rattle.tdm_cli.specs.Baseline.{most_uses}

-- the value of the baseline: the baseline tree of each net, with uniform ratios
abbrev pub IsBaselineValue : Board → ℕ → Type 0
IsBaselineValue board value = (trees : List (List ℕ)) × AreBaseTrees board trees
    × (value ≡ value_of board (uniform_routing board trees))

-- what `route` may write: a legal solution and a valid certificate that texts can say, with its bound
pub record IsRouting (board : Board) (routing : Routing) (cert : Cert) (bound : ℕ) : Type 0 where
  pub for_board : IsFor board routing
  pub legal : IsLegal board routing
  pub minimal : (n : ℕ) → n < length board.nets
      → IsMinimalTree board (wires_of (uses_of routing n)) (terminals_of board n)
  pub few : sum_by length routing ≤ most_uses
  pub sayable : IsSayable board routing
  pub no_worse : (value : ℕ) → IsBaselineValue board value → value_of board routing ≤ value
  pub within : IsCert cert
  pub cert_for : IsCertFor board cert
  pub cert_few : sum_by length cert.potentials ≤ most_potential_values
  pub valid : IsValid board cert
  pub is_bound : IsBound board cert bound
  pub lower : IsLowerBound board bound
  pub hop_floor : (floor : ℕ) → IsHopFloor board floor → floor ≤ bound
  pub share_floor : (floor : ℕ) → IsShareFloor board floor → floor ≤ bound
