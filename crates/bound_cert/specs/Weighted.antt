-- The certificate by shares at any weights and lengths, and what its bound is.
use Rattle.std.specs.Prelude.{◌≡◌, ℕ, false, ◌-◌, ◌*◌, ◌<◌, List, length, sum, slice_index_or}
use Rattle.tdm_problem.specs.Board.{Board}
use Rattle.tdm_problem.specs.Legal.{lanes_of}
use Rattle.tdm_problem.specs.Roots.{root_of}
use Rattle.tdm_problem.specs.Sums.{sum_below}
use Rattle.tdm_problem.specs.Weights.{net_weight}
use Rattle.bound_cert.specs.declared.certificate.CertKind.TheVariants.{Share}
use Rattle.bound_cert.specs.Certificate.{Cert}
use Rattle.bound_cert.specs.Bound.{least_even}
use Rattle.bound_cert.specs.Depths.{IsDepthOver}
use Rattle.bound_cert.specs.Makers.{HasSourcePotentials}

-- the certificate by shares with these weights and these lengths
pub record IsWeightedShareCert (board : Board) (weights lengths : List ℕ) (cert : Cert) : Type 0 where
  pub kind : cert.kind ≡ Share
  pub chosen : cert.grows ≡ false
  pub weights_are : cert.weights ≡ weights
  pub lengths_are : cert.lengths ≡ lengths
  pub potentials : HasSourcePotentials board cert

-- the list has the length of each wire of the board
abbrev pub ListsLengths : Board → (lengths : List ℕ) → (wire_length : ℕ → ℕ) → Type 0
ListsLengths board lengths wire_length = (e : ℕ) → e < length board.wires
    → slice_index_or lengths e 0 ≡ wire_length e

-- the least even number that, times the sum of the weights, is at least twice the sum over all nets of the
-- depth times the root of the weight, less the square of each wire's length for each of its lanes; 0 where
-- the weights sum to 0
abbrev pub share_bound : Board → (weights : List ℕ) → (wire_length depth : ℕ → ℕ) → ℕ
share_bound board weights wire_length depth = least_even
    (2 * sum_below (length board.nets) (λ n. root_of (net_weight board.groups weights n) * depth n)
    - sum_below (length board.wires) (λ e. lanes_of board e * (wire_length e * wire_length e)))
    (sum weights)

-- the number is the bound that these weights and lengths come to
pub record IsShareBound (board : Board) (weights : List ℕ) (wire_length : ℕ → ℕ) (bound : ℕ) : Type 0 where
  pub depth : ℕ → ℕ
  pub depths : (n : ℕ) → n < length board.nets → IsDepthOver board wire_length n (depth n)
  pub bound_is : bound ≡ share_bound board weights wire_length depth
