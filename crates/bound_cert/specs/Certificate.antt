-- What a certificate says of a board.
use Rattle.std.specs.Prelude.{◌≡◌, ℕ, Bool, true, ◌<◌, ◌≤◌, List, [], length, slice_index_or, All}
use Rattle.tdm_problem.specs.Board.{Board}
use Rattle.tdm_problem.specs.Limits.{most_weight}
use Rattle.bound_cert.specs.declared.certificate.CertKind.{CertKind}
use Rattle.bound_cert.specs.declared.certificate.CertKind.TheVariants.{Share, Hop}
use Rattle.bound_cert.specs.Limits.{most_length, most_unit, most_potentials, most_potential_value}

-- a kind, whether the spread of a net is its growth, the weight of each group, the length of each wire, the
-- potentials, and for each net which of them it chooses: 0 for none, else the potential's number plus 1
pub record Cert : Type 0 where
  pub kind : CertKind
  pub grows : Bool
  pub weights : List ℕ
  pub lengths : List ℕ
  pub potentials : List (List ℕ)
  pub choices : List ℕ

-- the unit, where the kind has one, is in its range
abbrev pub HasUnit : CertKind → Type 0
HasUnit Share = Unit {0}
HasUnit (Hop unit) = (0 < unit) × (unit ≤ most_unit)

-- the lengths are as the kind has them: by shares each within the limit, by hops each of them the unit
abbrev pub HasLengths : CertKind → List ℕ → Type 0
HasLengths Share lengths = All (λ l. l ≤ most_length) lengths
HasLengths (Hop unit) lengths = (0 < unit) × (unit ≤ most_unit) × All (λ l. l ≡ unit) lengths

-- the potential has values, none of them too large
pub record IsPotential (potential : List ℕ) : Type 0 where
  pub some : 0 < length potential
  pub values : All (λ v. v ≤ most_potential_value) potential

-- the numbers keep to their ranges
pub record IsCert (cert : Cert) : Type 0 where
  pub weights : All (λ w. w ≤ most_weight) cert.weights
  pub lengths : HasLengths cert.kind cert.lengths
  pub potential_limit : length cert.potentials ≤ most_potentials
  pub grown : cert.grows ≡ true → length cert.potentials ≡ 0
  pub potentials : All IsPotential cert.potentials
  pub choices : All (λ c. c ≤ length cert.potentials) cert.choices

-- the certificate has a number for each group, each wire and each net, and its potentials one for each FPGA
pub record IsCertFor (board : Board) (cert : Cert) : Type 0 where
  pub weights : length cert.weights ≡ length board.groups
  pub lengths : length cert.lengths ≡ length board.wires
  pub potentials : All (λ potential. length potential ≡ board.fpgas) cert.potentials
  pub choices : length cert.choices ≡ length board.nets

-- the weight of group g
abbrev pub weight_of : Cert → ℕ → ℕ
weight_of cert g = slice_index_or cert.weights g 0

-- the length of wire e
abbrev pub length_of : Cert → ℕ → ℕ
length_of cert e = slice_index_or cert.lengths e 0

-- the values of potential p
abbrev pub potential_of : Cert → ℕ → List ℕ
potential_of cert p = slice_index_or cert.potentials p []

-- the value of a potential at FPGA f
abbrev pub value_at : List ℕ → ℕ → ℕ
value_at potential f = slice_index_or potential f 0

-- which potential net n chooses
abbrev pub choice_of : Cert → ℕ → ℕ
choice_of cert n = slice_index_or cert.choices n 0
