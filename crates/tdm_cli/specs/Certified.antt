-- The certificate that `route` has before the rounds: the one of two with the greater bound.
use Rattle.std.specs.Prelude.{◌≡◌, ◌⊎◌, ℕ, ◌<◌, ◌≤◌, length, sum_by}
use Rattle.tdm_problem.specs.Board.{Board}
use Rattle.bound_cert.specs.Limits.{most_potential_values}
use Rattle.bound_cert.specs.Certificate.{Cert, IsCert, IsCertFor}
use Rattle.bound_cert.specs.Valid.{IsValid}
use Rattle.bound_cert.specs.Bound.{bound_of, IsBound}
use Rattle.bound_cert.specs.Floors.{IsHopFloor, IsShareFloor}
use Rattle.bound_cert.specs.Makers.{IsHopGroupCert, IsUniformShareCert}
use Rattle.cert_checker.specs.Answer.{IsLowerBound}

-- a valid certificate for the board, with which no legal solution's value is below its bound
pub record IsProof (board : Board) (cert : Cert) : Type 0 where
  pub within : IsCert cert
  pub for_board : IsCertFor board cert
  pub valid : IsValid board cert
  pub few : sum_by length cert.potentials ≤ most_potential_values
  pub bound : IsBound board cert (bound_of board cert)
  pub lower : IsLowerBound board (bound_of board cert)

-- a certificate by hops for the deepest group, whose bound is twice that group's depth
pub record IsHopProof (board : Board) (cert : Cert) : Type 0 where
  pub made : IsHopGroupCert board cert
  pub proof : IsProof board cert
  pub floor : IsHopFloor board (bound_of board cert)
  pub only_floor : (floor : ℕ) → IsHopFloor board floor → floor ≡ bound_of board cert

-- a certificate by shares with one weight and one length, whose bound is the floor by shares
pub record IsShareProof (board : Board) (cert : Cert) : Type 0 where
  pub made : IsUniformShareCert board cert
  pub proof : IsProof board cert
  pub floor : IsShareFloor board (bound_of board cert)
  pub only_floor : (floor : ℕ) → IsShareFloor board floor → floor ≡ bound_of board cert

-- of the certificate by hops and the one by shares, the one with the greater bound, the one by hops on a tie
pub record IsBestCert (board : Board) (cert : Cert) : Type 0 where
  pub hop : Cert
  pub is_hop : IsHopProof board hop
  pub share : Cert
  pub is_share : IsShareProof board share
  pub better : ((cert ≡ hop) × (bound_of board share ≤ bound_of board hop))
      ⊎ ((cert ≡ share) × (bound_of board hop < bound_of board share))
