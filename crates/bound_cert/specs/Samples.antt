-- Certificates of small boards, and a ring, on which the definitions are computed.
use Rattle.std.specs.Prelude.{ℕ, false, List, [], ◌∷◌}
use Rattle.tdm_problem.specs.Board.{Board}
use Rattle.tdm_problem.specs.Samples.{wire}
use Rattle.bound_cert.specs.declared.certificate.CertKind.TheVariants.{Share, Hop}
use Rattle.bound_cert.specs.Certificate.{Cert}

-- by shares, for two FPGAs and a wire: one group's weight, the wire's length, one potential with its two
-- values, and each net's choice
abbrev pub wire_cert : (weight wire_length first second : ℕ) → (choices : List ℕ) → Cert
wire_cert weight wire_length first second choices = record {
  kind = Share;
  grows = false;
  weights = weight ∷ [];
  lengths = wire_length ∷ [];
  potentials = (first ∷ second ∷ []) ∷ [];
  choices = choices;
}

-- by hops of length 1, for the star and its one net: the hops from the end of the first arm
abbrev pub star_cert : Cert
star_cert = record {
  kind = Hop 1;
  grows = false;
  weights = 1 ∷ [];
  lengths = 1 ∷ 1 ∷ 1 ∷ [];
  potentials = (1 ∷ 0 ∷ 2 ∷ 2 ∷ []) ∷ [];
  choices = 1 ∷ [];
}

-- five FPGAs in a ring, each with a wire to the next
abbrev pub ring_of_five : Board
ring_of_five = record {
  fpgas = 5;
  wires = wire 0 1 ∷ wire 1 2 ∷ wire 2 3 ∷ wire 3 4 ∷ wire 4 0 ∷ [];
  nets = (0 ∷ 2 ∷ 3 ∷ []) ∷ [];
  groups = (0 ∷ []) ∷ [];
}
