-- When an answer to a certificate is right.
use Rattle.std.specs.Prelude.{ℕ, ◌≤◌}
use Rattle.tdm_problem.specs.Board.{Board}
use Rattle.tdm_problem.specs.Routing.{Routing}
use Rattle.tdm_problem.specs.Legal.{IsLegal}
use Rattle.tdm_problem.specs.Value.{value_of}
use Rattle.bound_cert.specs.Certificate.{Cert}
use Rattle.bound_cert.specs.Valid.{IsValid}
use Rattle.bound_cert.specs.Bound.{IsBound}
use Rattle.cert_checker.specs.declared.answer.CheckAnswer.{CheckAnswer}
use Rattle.cert_checker.specs.declared.answer.CheckAnswer.TheVariants.{Accepted, Rejected}
use Rattle.cert_checker.specs.Steep.{IsFirstSteep}

-- the answer is right: accepted with the bound of a valid certificate, or rejected with the first steep pair
abbrev pub IsAnswer : Board → Cert → CheckAnswer → Type 0
IsAnswer board cert (Accepted bound) = IsValid board cert × IsBound board cert bound
IsAnswer board cert (Rejected pair) = IsFirstSteep board cert pair

-- the answer accepts the certificate
abbrev pub IsAcceptance : CheckAnswer → Type 0
IsAcceptance (Accepted bound) = Unit {0}
IsAcceptance (Rejected pair) = ⊥

-- no legal routing's value is below the number
abbrev pub IsLowerBound : Board → ℕ → Type 0
IsLowerBound board bound = (routing : Routing) → IsLegal board routing → bound ≤ value_of board routing

-- a bound that the answer accepts is a lower bound
abbrev pub HasLowerBound : Board → CheckAnswer → Type 0
HasLowerBound board (Accepted bound) = IsLowerBound board bound
HasLowerBound board (Rejected pair) = Unit {0}
