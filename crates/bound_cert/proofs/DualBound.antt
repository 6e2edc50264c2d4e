-- The dual bound, for certificates of either kind.
use Rattle.std.proofs.Common.{ℕ, ◌*◌, ◌≤◌, arith}
use Rattle.tdm_problem.specs.Board.{Board, IsBoard}
use Rattle.tdm_problem.specs.Routing.{Routing}
use Rattle.tdm_problem.specs.Legal.{IsLegal}
use Rattle.tdm_problem.specs.Value.{value_of}
use Rattle.tdm_problem.proofs.Evens.{value_of-legal_even}
use Rattle.bound_cert.specs.declared.certificate.CertKind.{CertKind}
use Rattle.bound_cert.specs.declared.certificate.CertKind.TheVariants.{Share, Hop}
use Rattle.bound_cert.specs.Certificate.{Cert, IsCert, HasLengths}
use Rattle.bound_cert.specs.Valid.{IsValid}
use Rattle.bound_cert.specs.Bound.{demand_by, divisor_of, divisor_of_kind, least_even, bound_of, net_spread}
use Rattle.bound_cert.specs.Laws.{DualBoundLaw}
use Rattle.bound_cert.proofs.LeastEven.{least_even-le}
use Rattle.bound_cert.proofs.NetSpreads.{AreShort, short-bound, short-chosen}
use Rattle.bound_cert.proofs.HopBound.{hop-demand_le}
use Rattle.bound_cert.proofs.ShareBound.{share-demand_le}

-- where no net with weight is spread farther than its wires are long, the demand is at most the divisor times
-- the value
demand-le : (kind : CertKind) (board : Board) (cert : Cert) (routing : Routing) (spreads : ℕ → ℕ)
    → HasLengths kind cert.lengths →
    IsBoard board → AreShort board cert routing spreads → IsLegal board routing →
    demand_by kind board cert spreads ≤ divisor_of_kind kind cert.weights * value_of board routing
demand-le Share board cert routing spreads lengths is short legal =
    share-demand_le board cert routing spreads is short legal
demand-le (Hop unit) board cert routing spreads lengths is short legal =
    hop-demand_le board cert routing spreads unit lengths.2 is short legal

bound_by-le_value : (board : Board) (cert : Cert) (routing : Routing) (spreads : ℕ → ℕ) → IsBoard board
    → IsCert cert →
    AreShort board cert routing spreads → IsLegal board routing
    → least_even (demand_by cert.kind board cert spreads) (divisor_of cert) ≤ value_of board routing
bound_by-le_value board cert routing spreads is_board is_cert short legal =
    let even = value_of-legal_even board routing legal in
    least_even-le (demand_by cert.kind board cert spreads) (divisor_of cert) even.0 (value_of board routing)
    even.1
    (demand-le cert.kind board cert routing spreads is_cert.lengths is_board short legal)

-- the bound of a valid certificate is at most the value of every legal routing
pub bound-le_value : DualBoundLaw
bound-le_value board cert bound routing is_board is_cert valid is legal =
    omega (
      arith,
      is.bound_is,
      bound_by-le_value board cert routing is.spreads is_board is_cert
          (short-bound board cert bound routing valid legal is) legal,
    )

-- so is that by the choices of nets
pub bound_of-le_value : (board : Board) (cert : Cert) (routing : Routing) → IsBoard board → IsCert cert →
    IsValid board cert → IsLegal board routing → bound_of board cert ≤ value_of board routing
bound_of-le_value board cert routing is_board is_cert valid legal =
    bound_by-le_value board cert routing (net_spread board cert) is_board is_cert
    (short-chosen board cert routing valid legal) legal
