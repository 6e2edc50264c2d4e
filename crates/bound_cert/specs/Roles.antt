-- Where a certificate text stands: what its lines so far have said, and what the lines that still come make
-- of that.
use Rattle.std.specs.Prelude.{◌≡◌, ℕ, true, false, ◌+◌, ◌<◌, ◌≤◌, List, [], ◌∷◌, ◌++◌, length, take, All, Option, None, Result, Err}
use Rattle.tdm_lines.specs.declared.line.TokenFault.{TokenFault}
use Rattle.tdm_lines.specs.FirstNumbers.{Firsts, AreFirst}
use Rattle.tdm_lines.specs.Lines.{Line}
use Rattle.tdm_lines.specs.SoFar.{ended_line}
use Rattle.bound_cert.specs.declared.certificate.CertKind.TheVariants.{Share}
use Rattle.bound_cert.specs.declared.header.Header.{Header}
use Rattle.bound_cert.specs.CertKinds.{CertRefusal, of_token}
use Rattle.bound_cert.specs.declared.refusal.CertTextKind.TheVariants.{NoHeader, WeightLimit, LengthLimit, UnknownPotential}
use Rattle.bound_cert.specs.declared.state.CertState.{CertState}
use Rattle.bound_cert.specs.declared.state.Role.{Role}
use Rattle.bound_cert.specs.declared.state.Role.TheVariants as role
use Rattle.bound_cert.specs.declared.state.Sizes.{Sizes}
use Rattle.bound_cert.specs.Certificate.{Cert, HasLengths, IsPotential}
use Rattle.tdm_lines.specs.Refusals.{line_said as said_of_line, ◌>>=◌}
use Rattle.bound_cert.specs.CertReading.{header_said, number_said, potential_said, line_from, section_from, lengths_from, choices_from, unless_more}
use Rattle.tdm_problem.specs.Limits.{most_weight}
use Rattle.bound_cert.specs.Limits.{most_length, most_potentials, most_potential_value}

-- what line n says, by what its numbers say
abbrev pub line_said : {A : Type 0} → (ℕ → List ℕ → Result A CertRefusal) → ℕ → Option TokenFault → List ℕ
    → Result A CertRefusal
line_said said n fault numbers = said_of_line of_token said n fault numbers

-- ---- the lines that still come

module _ (after : ℕ) where
  -- so many lines of a section whose earlier lines said these things, and then the lines behind it
  abbrev pub in_section : {A : Type 0} → (ℕ → List ℕ → Result A CertRefusal)
      → (List A → List Line → Result Cert CertRefusal)
      → ℕ → List A → List Line → Result Cert CertRefusal
  in_section said next left front lines = do
    rest ← section_from after said left lines
    next (front ++ rest.0) rest.1

  -- from a choice on
  abbrev pub in_choices : Sizes → ℕ → Cert → ℕ → List Line → Result Cert CertRefusal
  in_choices sizes potentials cert left lines =
      in_section (number_said UnknownPotential potentials)
      (λ choices. unless_more (record cert { choices = choices })) left cert.choices lines

  -- behind the potentials
  abbrev pub past_potentials : Sizes → ℕ → Cert → List Line → Result Cert CertRefusal
  past_potentials sizes potentials cert lines = do
    choices ← choices_from after cert.grows potentials sizes.nets lines
    unless_more (record cert { choices = choices.0 }) choices.1

  -- from a potential on
  abbrev pub in_potentials : Sizes → ℕ → Cert → ℕ → List Line → Result Cert CertRefusal
  in_potentials sizes potentials cert left lines =
      in_section (potential_said sizes.fpgas) (λ rows. past_potentials sizes potentials
      (record cert { potentials = rows })) left cert.potentials lines

  -- from a length on
  abbrev pub in_lengths : Sizes → ℕ → Cert → ℕ → List Line → Result Cert CertRefusal
  in_lengths sizes potentials cert left lines =
      in_section (number_said LengthLimit most_length) (λ lengths. in_potentials sizes potentials
      (record cert { lengths = lengths }) potentials) left cert.lengths lines

  -- behind the weights
  abbrev pub past_weights : Sizes → ℕ → Cert → List Line → Result Cert CertRefusal
  past_weights sizes potentials cert lines = do
    lengths ← lengths_from after cert.kind sizes.wires lines
    in_potentials sizes potentials (record cert { lengths = lengths.0 }) potentials lengths.1

  -- from a weight on
  abbrev pub in_weights : Sizes → ℕ → Cert → ℕ → List Line → Result Cert CertRefusal
  in_weights sizes potentials cert left lines =
      in_section (number_said WeightLimit most_weight) (λ weights. past_weights sizes potentials
      (record cert { weights = weights })) left cert.weights lines

  -- behind a header
  abbrev pub past_header : Sizes → Header → List Line → Result Cert CertRefusal
  past_header sizes header lines =
      in_weights sizes header.potentials (record {
        kind = header.kind;
        grows = header.grows;
        weights = [];
        lengths = [];
        potentials = [];
        choices = [];
      }) sizes.groups lines

  -- the whole text
  abbrev pub from_header : Sizes → List Line → Result Cert CertRefusal
  from_header sizes lines = do
    header ← line_from after NoHeader (header_said sizes.fpgas) lines
    past_header sizes header.0 header.1

-- what the text says whose lines so far made this state, where these lines are still to come and `after` is
-- the line after the text
abbrev pub said_in : Role → Sizes → ℕ → Cert → ℕ → ℕ → List Line → Result Cert CertRefusal
said_in role.Header sizes potentials cert left after lines = from_header after sizes lines
said_in role.Weight sizes potentials cert left after lines = in_weights after sizes potentials cert left lines
said_in role.Length sizes potentials cert left after lines = in_lengths after sizes potentials cert left lines
said_in role.Potential sizes potentials cert left after lines =
    in_potentials after sizes potentials cert left lines
said_in role.Choice sizes potentials cert left after lines = in_choices after sizes potentials cert left lines
said_in role.End sizes potentials cert left after lines = unless_more cert lines
said_in (role.Refused refusal) sizes potentials cert left after lines = Err refusal

-- ---- the state

-- the certificate as far as it was read
abbrev pub so_far : CertState → Cert
so_far state = record {
  kind = state.header.kind;
  grows = state.header.grows;
  weights = state.weights.items;
  lengths = state.lengths.items;
  potentials = state.potentials.items;
  choices = state.choices.items;
}

abbrev pub said_of : CertState → ℕ → List Line → Result Cert CertRefusal
said_of state after lines = said_in state.role state.sizes state.header.potentials (so_far state) state.left
    after lines

-- the lines so far made this state: whatever comes, the text says what the state says of that
abbrev pub Reads : CertState → List Line → Type 0
Reads state done = (after : ℕ) (more : List Line) → from_header after state.sizes (done ++ more)
    ≡ said_of state after more

-- the first numbers of the line in progress
abbrev pub Holds : CertState → List ℕ → Type 0
Holds state numbers = AreFirst state.numbers numbers

-- of the line that ends, where it has no fault, the first numbers are kept: as many as a line can have, and
-- one more
abbrev pub AreTaken : Sizes → Firsts → Option TokenFault → List ℕ → Type 0
AreTaken sizes kept fault numbers = fault ≡ None → kept.numbers ≡ take (sizes.fpgas + 5) numbers

-- the line that ends is taken: the text says of the new state what it says of the old one and that line
abbrev pub Takes : ℕ → Option TokenFault → (old new : CertState) → Type 0
Takes line fault old new = (numbers : List ℕ) (after : ℕ) (more : List Line)
    → AreTaken old.sizes old.numbers fault numbers
    → said_of old after (ended_line line fault numbers ∷ more) ≡ said_of new after more

-- what is kept of a line, and that the numbers that were read keep to their ranges
pub record IsKept (kept : Firsts) (sizes : Sizes) (potentials : ℕ) (cert : Cert) : Type 0 where
  pub most : kept.most ≡ sizes.fpgas + 5
  pub largest : kept.largest ≡ most_potential_value
  pub few : potentials ≤ most_potentials
  pub some : 0 < potentials → 0 < sizes.fpgas
  pub grown : cert.grows ≡ true → potentials ≡ 0
  pub weights : All (λ w. w ≤ most_weight) cert.weights
  pub lengths : HasLengths cert.kind cert.lengths
  pub potentials_are : All IsPotential cert.potentials
  pub choices : All (λ c. c ≤ potentials) cert.choices

-- so many lines of the section in progress are still to come, and nothing of a later section is there
pub record IsInWeights (cert : Cert) (left : ℕ) : Type 0 where
  pub some : 0 < left
  pub no_length : cert.lengths ≡ []
  pub no_potential : cert.potentials ≡ []
  pub no_choice : cert.choices ≡ []

pub record IsInLengths (cert : Cert) (left : ℕ) : Type 0 where
  pub some : 0 < left
  pub share : cert.kind ≡ Share
  pub no_potential : cert.potentials ≡ []
  pub no_choice : cert.choices ≡ []

pub record IsInPotentials (potentials : ℕ) (cert : Cert) (left : ℕ) : Type 0 where
  pub some : 0 < left
  pub room : length cert.potentials + left ≡ potentials
  pub no_choice : cert.choices ≡ []

pub record IsInChoices (potentials : ℕ) (cert : Cert) (left : ℕ) : Type 0 where
  pub some : 0 < left
  pub chosen : cert.grows ≡ false
  pub all_there : length cert.potentials ≡ potentials

abbrev pub IsInRole : Role → ℕ → Cert → ℕ → Type 0
IsInRole role.Header potentials cert left = cert ≡ record {
  kind = cert.kind;
  grows = cert.grows;
  weights = [];
  lengths = [];
  potentials = [];
  choices = [];
}
IsInRole role.Weight potentials cert left = IsInWeights cert left
IsInRole role.Length potentials cert left = IsInLengths cert left
IsInRole role.Potential potentials cert left = IsInPotentials potentials cert left
IsInRole role.Choice potentials cert left = IsInChoices potentials cert left
IsInRole role.End potentials cert left = length cert.potentials ≡ potentials
IsInRole (role.Refused refusal) potentials cert left = Unit {0}

-- what holds of each state
pub record IsFine (state : CertState) : Type 0 where
  pub kept : IsKept state.numbers state.sizes state.header.potentials (so_far state)
  pub in_role : IsInRole state.role state.header.potentials (so_far state) state.left
