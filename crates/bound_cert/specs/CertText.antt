-- The text of a certificate.
use Rattle.std.specs.Prelude.{ℕ, Bool, true, false, List, [], ◌∷◌, ◌++◌, length}
use Rattle.std.specs.List.{flat_map}
use Rattle.tdm_lines.specs.Written.{line_text}
use Rattle.bound_cert.specs.declared.certificate.CertKind.{CertKind}
use Rattle.bound_cert.specs.declared.certificate.CertKind.TheVariants.{Share, Hop}
use Rattle.bound_cert.specs.Certificate.{Cert}

-- the version: 4 where the spread of a net is its growth, and else 1
abbrev pub version_of : Bool → ℕ
version_of true = 4
version_of false = 1

-- the number of a kind
abbrev pub number_of_kind : CertKind → ℕ
number_of_kind Share = 1
number_of_kind (Hop unit) = 2

-- the unit of a kind, 0 for the one that has none
abbrev pub unit_of_kind : CertKind → ℕ
unit_of_kind Share = 0
unit_of_kind (Hop unit) = unit

-- the lengths that have a line: none where each is the unit
abbrev pub listed_lengths : CertKind → List ℕ → List ℕ
listed_lengths Share lengths = lengths
listed_lengths (Hop unit) lengths = []

-- the choices that have a line: none where nets grow
abbrev pub listed_choices : Bool → List ℕ → List ℕ
listed_choices true choices = []
listed_choices false choices = choices

-- the numbers of the header: the version, the kind, its unit, and how many potentials there are
abbrev pub header_row : Cert → List ℕ
header_row cert =
    version_of cert.grows ∷ number_of_kind cert.kind ∷ unit_of_kind cert.kind ∷ length cert.potentials ∷ []

-- a line of one number
abbrev pub number_line : ℕ → List ℕ
number_line n = line_text (n ∷ [])

-- a line for the header, for each weight, for each listed length, for each potential and for each listed
-- choice
abbrev pub cert_text : Cert → List ℕ
cert_text cert =
    line_text (header_row cert)
    ++ flat_map number_line cert.weights
    ++ flat_map number_line (listed_lengths cert.kind cert.lengths)
    ++ flat_map line_text cert.potentials
    ++ flat_map number_line (listed_choices cert.grows cert.choices)
