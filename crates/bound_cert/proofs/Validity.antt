-- A potential of distances rises along no wire by more than the wire's length.
use Rattle.std.proofs.Common.{◌≡◌, ℕ, ◌+◌, ◌≤◌, List, [], ◌∷◌, ◌++◌, inl, inr, arith}
use Rattle.std.specs.Prelude.{slice_index}
use Rattle.std.proofs.lemmas.List.Sums.{sum_by-cons, sum_by-append}
use Rattle.tdm_problem.specs.Board.{Board, IsBoard}
use Rattle.tdm_problem.specs.Walk.{Links, IsWalk, AnyWire}
use Rattle.tdm_problem.specs.Distance.{length_of}
use Rattle.tdm_problem.proofs.Walks.{AnyWire-from_links, IsWalk-append, IsWalk-one, Links-sym, IsWireOf-from_links}
use Rattle.bound_cert.specs.Certificate.{Cert, value_at, potential_of}
use Rattle.bound_cert.specs.Certificate as certificate
use Rattle.bound_cert.specs.Valid.{IsValid}
use Rattle.bound_cert.specs.Sources.{sources_of}
use Rattle.bound_cert.specs.Makers.{IsSourceValue, HasSourcePotentials}

-- one wire more at the end of a walk
walk_more : (board : Board) (wire_length : ℕ → ℕ) (source e a b : ℕ) (es : List ℕ)
    → IsWalk board (AnyWire board) source es a → Links board e a b → (fs : List ℕ)
    × IsWalk board (AnyWire board) source fs b
    × (length_of wire_length fs ≡ length_of wire_length es + wire_length e)
walk_more board wire_length source e a b es walk links = (
  es ++ e ∷ [],
  IsWalk-append board (AnyWire board) source es a (e ∷ []) b walk
      (IsWalk-one board (AnyWire board) e a b (AnyWire-from_links board e a b links) links),
  omega (arith, sum_by-append wire_length es (e ∷ []), sum_by-cons wire_length e []),
)

module _ (board : Board) (wire_length : ℕ → ℕ) (source e a b : ℕ) (links : Links board e a b) where
  value_rises : (low high : ℕ) → IsSourceValue board wire_length source a low
      → IsSourceValue board wire_length source b high → high ≤ low + wire_length e
  value_rises low high (inl near) (inl far) =
      let more = walk_more board wire_length source e a b near.walk.0 near.walk.1 links in
      omega (arith, far.least more.0 more.1, more.2, near.walk.2)
  value_rises low high (inr none) (inl far) =
      let more = walk_more board wire_length source e b a far.walk.0 far.walk.1
      (Links-sym board e a b links) in
      absurd (none.0 more.0 more.1)
  value_rises low high near (inr none) = omega (arith, none.1)

-- so the certificate is valid
pub IsValid-from_sources : (board : Board) (cert : Cert) → IsBoard board → HasSourcePotentials board cert
    → IsValid board cert
IsValid-from_sources board cert is has p e a b there links =
    let potential = has.potentials.each p (omega (arith, there, has.potentials.count)) in
    let ends = IsWireOf-from_links board e a b is links in
    value_rises board (certificate.length_of cert) (slice_index (sources_of board) p) e a b links
    (value_at (potential_of cert p) a) (value_at (potential_of cert p) b) (potential.values a ends.0)
    (potential.values b ends.1)
