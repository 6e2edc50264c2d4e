-- What a text says: a certificate for the board, or the first refusal.
use Rattle.std.specs.Prelude.{ℕ, zero, suc, ◌^◌, ◌==◌, ◌&&◌, ◌||◌, nat_lt, if◌then◌else◌, Bool, true, false, List, [], ◌∷◌, length, replicate, Result, Ok}
use Rattle.tdm_problem.specs.Board.{Board}
use Rattle.tdm_problem.specs.Limits.{most_weight}
use Rattle.tdm_lines.specs.Lines.{Line, lines, line_after}
use Rattle.tdm_lines.specs.Refusals.{refused, ◌>>=◌, next_line as next_of}
use Rattle.bound_cert.specs.declared.certificate.CertKind.{CertKind}
use Rattle.bound_cert.specs.declared.certificate.CertKind.TheVariants.{Share, Hop}
use Rattle.bound_cert.specs.declared.header.Header.{Header}
use Rattle.bound_cert.specs.Limits.{most_length, most_unit, most_potentials, most_potential_value}
use Rattle.bound_cert.specs.declared.refusal.CertTextKind.{CertTextKind}
use Rattle.bound_cert.specs.declared.refusal.CertTextKind.TheVariants.{NoHeader, WrongCount, BadVersion, BadKind, BadUnit, CountLimit, WeightLimit, LengthLimit, UnknownPotential, MissingLine, ExtraLine, TooLong}
use Rattle.bound_cert.specs.CertKinds.{CertRefusal, of_token}
use Rattle.bound_cert.specs.Certificate.{Cert}

-- the most bytes of a certificate text
abbrev pub most_bytes : ℕ
most_bytes = 2 ^ 30

-- ---- what a line says

-- the kind of this number, with a unit that it may have
abbrev pub kind_said : ℕ → (kind unit : ℕ) → Result CertKind CertRefusal
kind_said line kind unit =
    if kind == 1 then (if unit == 0 then Ok Share else refused BadUnit line)
    else (if kind == 2
    then (if unit == 0 || nat_lt most_unit unit then refused BadUnit line else Ok (Hop unit))
    else refused BadKind line)

-- whether the spread of a net is its growth: in version 4, and not in version 1
abbrev pub grows_said : (line version : ℕ) → Result Bool CertRefusal
grows_said line version =
    if version == 1 then Ok false else (if version == 4 then Ok true else refused BadVersion line)

-- how many potentials there are: at most the limit, and none where nets grow or where there is no FPGA for a
-- potential to have a value at
abbrev pub count_said : (grows : Bool) → (fpgas line count : ℕ) → Result ℕ CertRefusal
count_said grows fpgas line count =
    if nat_lt most_potentials count || ((grows || fpgas == 0) && nat_lt 0 count) then refused CountLimit line
    else Ok count

-- a header has four numbers: a version, a kind, its unit, and how many potentials there are
abbrev pub header_said : ℕ → ℕ → List ℕ → Result Header CertRefusal
header_said fpgas line (version ∷ kind ∷ unit ∷ count ∷ []) = do
  grows ← grows_said line version
  kind ← kind_said line kind unit
  potentials ← count_said grows fpgas line count
  Ok (record { kind = kind; grows = grows; potentials = potentials })
header_said fpgas line numbers = refused WrongCount line

-- a line of one number, which is at most the limit
abbrev pub number_said : CertTextKind → ℕ → ℕ → List ℕ → Result ℕ CertRefusal
number_said above limit line (n ∷ []) = if nat_lt limit n then refused above line else Ok n
number_said above limit line numbers = refused WrongCount line

-- the line of a potential has a value for each FPGA
abbrev pub potential_said : ℕ → ℕ → List ℕ → Result (List ℕ) CertRefusal
potential_said fpgas line values = if length values == fpgas then Ok values else refused WrongCount line

-- ---- what the lines say, one after another

-- the certificate, unless a line is left
abbrev pub unless_more : Cert → List Line → Result Cert CertRefusal
unless_more cert [] = Ok cert
unless_more cert (line ∷ more) = refused ExtraLine line.number

module _ (after : ℕ) where
  -- the next line and those behind it
  abbrev pub next_line : CertTextKind → List Line → Result (Line × List Line) CertRefusal
  next_line missing lines = next_of of_token after missing lines

  -- what the next line says, and the lines behind it
  abbrev pub line_from : {A : Type 0} → CertTextKind → (ℕ → List ℕ → Result A CertRefusal)
      → List Line → Result (A × List Line) CertRefusal
  line_from missing said lines = do
    next ← next_line missing lines
    x ← said next.0.number next.0.numbers
    Ok (x, next.1)

  -- what each of so many lines says, and the lines behind them
  abbrev pub section_from : {A : Type 0} → (ℕ → List ℕ → Result A CertRefusal) → ℕ → List Line
      → Result (List A × List Line) CertRefusal
  section_from said zero lines = Ok ([], lines)
  section_from said (suc count) lines = do
    first ← line_from MissingLine said lines
    rest ← section_from said count first.1
    Ok (first.0 ∷ rest.0, rest.1)

  -- the length of each wire: a line for each, or the unit and no line
  abbrev pub lengths_from : CertKind → ℕ → List Line → Result (List ℕ × List Line) CertRefusal
  lengths_from Share wires lines = section_from (number_said LengthLimit most_length) wires lines
  lengths_from (Hop unit) wires lines = Ok (replicate wires unit, lines)

  -- the choice of each net: a line for each, or none and no line where nets grow
  abbrev pub choices_from : Bool → (potentials nets : ℕ) → List Line → Result (List ℕ × List Line) CertRefusal
  choices_from true potentials nets lines = Ok (replicate nets 0, lines)
  choices_from false potentials nets lines = section_from (number_said UnknownPotential potentials) nets lines

  -- the header, then the weights, lengths, potentials and choices, and no line behind them
  abbrev pub cert_from : Board → List Line → Result Cert CertRefusal
  cert_from board lines = do
    header ← line_from NoHeader (header_said board.fpgas) lines
    weights ← section_from (number_said WeightLimit most_weight) (length board.groups) header.1
    lengths ← lengths_from header.0.kind (length board.wires) weights.1
    potentials ← section_from (potential_said board.fpgas) header.0.potentials lengths.1
    choices ← choices_from header.0.grows header.0.potentials (length board.nets) potentials.1
    unless_more (record {
      kind = header.0.kind;
      grows = header.0.grows;
      weights = weights.0;
      lengths = lengths.0;
      potentials = potentials.0;
      choices = choices.0;
    }) choices.1

-- the certificate for the board that the text says, or the first refusal
abbrev pub cert_of : Board → List ℕ → Result Cert CertRefusal
cert_of board text =
    if nat_lt most_bytes (length text) then refused TooLong 0
    else cert_from (line_after text) board (lines most_potential_value text)
