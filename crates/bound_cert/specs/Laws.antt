-- Laws on certificates: what joins FPGAs is as long as a potential is spread, and the bound is below every
-- legal value.
use Rattle.std.specs.Prelude.{◌≡◌, ℕ, false, ◌+◌, ◌*◌, ◌<◌, ◌≤◌, List, sum_by, Contains}
use Rattle.tdm_problem.specs.Board.{Board, IsBoard}
use Rattle.tdm_problem.specs.Routing.{Routing}
use Rattle.tdm_problem.specs.Walk.{Links, Joins}
use Rattle.tdm_problem.specs.Legal.{IsLegal}
use Rattle.tdm_problem.specs.Value.{value_of}
use Rattle.bound_cert.specs.Certificate.{Cert, IsCert, value_at}
use Rattle.bound_cert.specs.Valid.{IsValid}
use Rattle.bound_cert.specs.Bound.{spread, least_even, bound_of, IsBound}

-- along each wire, either way, the potential rises by at most the wire's length
abbrev pub IsGentle : Board → (potential : List ℕ) → (wire_length : ℕ → ℕ) → Type 0
IsGentle board potential wire_length = (e a b : ℕ) → Links board e a b
    → value_at potential b ≤ value_at potential a + wire_length e

-- wires that join FPGAs are together at least as long as a gentle potential is spread over these
abbrev pub SpreadLaw : Type 0
SpreadLaw = (board : Board) (potential : List ℕ) (wire_length : ℕ → ℕ) (wires fpgas : List ℕ) →
    IsGentle board potential wire_length → Joins board (Contains wires) fpgas →
    spread potential fpgas ≤ sum_by wire_length wires

-- the number is even, reaches the demand once it is multiplied, and no smaller even number does
pub record IsLeastEven (demand divisor number : ℕ) : Type 0 where
  pub even : (half : ℕ) × (number ≡ 2 * half)
  pub enough : demand ≤ divisor * number
  pub least : (half : ℕ) → demand ≤ divisor * (2 * half) → number ≤ 2 * half

-- where there is something to multiply by, the least even number that reaches the demand is what its name
-- says
abbrev pub LeastEvenLaw : Type 0
LeastEvenLaw = (demand divisor : ℕ) → 0 < divisor → IsLeastEven demand divisor (least_even demand divisor)

-- the bound of a valid certificate is at most the value of every legal routing
abbrev pub DualBoundLaw : Type 0
DualBoundLaw = (board : Board) (cert : Cert) (bound : ℕ) (routing : Routing) → IsBoard board → IsCert cert →
    IsValid board cert → IsBound board cert bound → IsLegal board routing → bound ≤ value_of board routing

-- a certificate has one bound alone
abbrev pub OneBoundLaw : Type 0
OneBoundLaw = (board : Board) (cert : Cert) (bound other : ℕ) → IsBound board cert bound →
    IsBound board cert other → bound ≡ other

-- a certificate has a bound
abbrev pub SomeBoundLaw : Type 0
SomeBoundLaw = (board : Board) (cert : Cert) → (bound : ℕ) × IsBound board cert bound

-- where nets do not grow, the bound is that by their choices
abbrev pub ChosenBoundLaw : Type 0
ChosenBoundLaw = (board : Board) (cert : Cert) → cert.grows ≡ false → IsBound board cert (bound_of board cert)
