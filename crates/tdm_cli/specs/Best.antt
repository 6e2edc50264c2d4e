-- The best solution and the best certificate so far.
use Rattle.std.specs.Prelude.{◌≡◌, ◌≤◌, ℕ, length, sum_by}
use Rattle.tdm_problem.specs.Board.{Board}
use Rattle.tdm_problem.specs.Routing.{Routing}
use Rattle.tdm_problem.specs.Value.{value_of}
use Rattle.bound_cert.specs.Bound.{IsBound}
use Rattle.bound_cert.specs.Certificate.{IsCert, IsCertFor}
use Rattle.bound_cert.specs.Limits.{most_potential_values}
use Rattle.bound_cert.specs.Valid.{IsValid}
use Rattle.cert_checker.specs.Answer.{IsLowerBound}
use Rattle.tdm_cli.specs.declared.certify.Certified.{Certified}
use Rattle.tdm_cli.specs.Routing.{IsRouting}

-- the solution and the certificate may be written, and have this value and this bound
pub record IsBest (board : Board) (routing : Routing) (value : ℕ) (certified : Certified) : Type 0 where
  pub may_be_written : IsRouting board routing certified.cert certified.bound
  pub value_is : value ≡ value_of board routing

-- a valid certificate for the board that may be written, and its bound, below which no legal solution's value
-- is
pub record IsCertified (board : Board) (certified : Certified) : Type 0 where
  pub within : IsCert certified.cert
  pub for_board : IsCertFor board certified.cert
  pub few : sum_by length certified.cert.potentials ≤ most_potential_values
  pub valid : IsValid board certified.cert
  pub is_bound : IsBound board certified.cert certified.bound
  pub lower : IsLowerBound board certified.bound
