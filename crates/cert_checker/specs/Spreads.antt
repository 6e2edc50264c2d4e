-- How far the nets of a board are spread.
use Rattle.std.specs.Prelude.{◌≡◌, ℕ, ◌<◌, ◌≤◌, ◌^◌, List, length, slice_index, All}
use Rattle.tdm_problem.specs.Board.{Board}
use Rattle.bound_cert.specs.declared.certificate.CertKind.{CertKind}
use Rattle.bound_cert.specs.declared.certificate.CertKind.TheVariants.{Share, Hop}
use Rattle.bound_cert.specs.Certificate.{Cert}
use Rattle.bound_cert.specs.Bound.{weight_of_net, IsSpreadBy}

-- no net is spread farther, by a certificate of this kind
abbrev pub most_spread : CertKind → ℕ
most_spread Share = 2 ^ 64
most_spread (Hop unit) = 2 ^ 60

-- the list has how far each net with weight is spread, and a number for each other net
pub record AreSpreads (board : Board) (cert : Cert) (spreads : List ℕ) : Type 0 where
  pub whole : length spreads ≡ length board.nets
  pub each : (n : ℕ) → n < length board.nets → 0 < weight_of_net board cert n
      → IsSpreadBy cert.grows board cert n (slice_index spreads n)
  pub small : All (λ s. s ≤ most_spread cert.kind) spreads
