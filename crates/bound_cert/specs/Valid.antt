-- When a certificate's potentials are gentle enough to be believed.
use Rattle.std.specs.Prelude.{ℕ, ◌+◌, ◌<◌, ◌≤◌, length}
use Rattle.tdm_problem.specs.Board.{Board}
use Rattle.tdm_problem.specs.Walk.{Links}
use Rattle.bound_cert.specs.Certificate.{Cert, length_of, potential_of, value_at}

-- along each wire, either way, each potential rises by at most the wire's length
abbrev pub IsValid : Board → Cert → Type 0
IsValid board cert = (p e a b : ℕ) → p < length cert.potentials → Links board e a b
    → value_at (potential_of cert p) b ≤ value_at (potential_of cert p) a + length_of cert e

-- along wire e, one way, potential p rises by more than the wire's length
pub record IsSteep (board : Board) (cert : Cert) (p e : ℕ) : Type 0 where
  pub a : ℕ
  pub b : ℕ
  pub links : Links board e a b
  pub more : value_at (potential_of cert p) a + length_of cert e < value_at (potential_of cert p) b
