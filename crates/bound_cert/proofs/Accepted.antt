-- A text that is not refused says a certificate whose numbers keep to their ranges.
use Rattle.std.proofs.Common.{◌≡◌, ℕ, zero, suc, ◌+◌, ◌<◌, ◌≤◌, cond, Bool, true, false, ◌||◌, ◌&&◌, List, [], ◌∷◌, length, replicate, Option, None, Some, Result, Ok, Err, refl, sym, ap, subst, ◌∙◌, arith}
use Rattle.std.specs.Prelude.{◌==◌, nat_lt, All}
use Rattle.std.proofs.lemmas.Bool.{ltb-false, eqb-true, eqb-false}
use Rattle.std.proofs.lemmas.List.{length-replicate}
use Rattle.std.proofs.lemmas.List.Elements.{All-nil, All-cons, All-weaker, All-replicate}
use Rattle.tdm_lines.specs.declared.line.TokenFault.{TokenFault}
use Rattle.tdm_lines.specs.Tokens.{tokens}
use Rattle.tdm_lines.specs.Lines.{Line, lines, lines_from, put_line, line_after, pieces}
use Rattle.tdm_lines.proofs.LineSteps.{numbers_of-within}
use Rattle.tdm_problem.specs.Board.{Board}
use Rattle.tdm_problem.specs.Limits.{most_weight}
use Rattle.bound_cert.specs.declared.certificate.CertKind.{CertKind}
use Rattle.bound_cert.specs.declared.certificate.CertKind.TheVariants.{Share, Hop}
use Rattle.bound_cert.specs.declared.header.Header.{Header}
use Rattle.bound_cert.specs.Limits.{most_length, most_unit, most_potentials, most_potential_value}
use Rattle.bound_cert.specs.declared.refusal.CertTextKind.{CertTextKind}
use Rattle.bound_cert.specs.declared.refusal.CertTextKind.TheVariants.{NoHeader, BadUnit, BadKind, MissingLine, WeightLimit, LengthLimit, UnknownPotential}
use Rattle.bound_cert.specs.CertKinds.{CertRefusal, of_token}
use Rattle.bound_cert.specs.Certificate.{Cert, IsCert, IsCertFor, IsPotential, HasUnit, HasLengths}
use Rattle.tdm_lines.specs.Refusals.{◌>>=◌, refused, unless_bad}
use Rattle.bound_cert.specs.CertReading.{grows_said, kind_said, count_said, header_said, number_said, potential_said, next_line, line_from, section_from, lengths_from, choices_from, unless_more, cert_from, cert_of}

-- ---- where there is no refusal, each step says something

bind-ok : {A B : Type 0} (first : Result A CertRefusal) (next : A → Result B CertRefusal) (out : B)
    → (first >>= next) ≡ Ok out → (x : A) × (first ≡ Ok x) × (next x ≡ Ok out)
bind-ok (Ok x) next out ok = (x, refl, ok)
bind-ok (Err refusal) next out ok = absurd (cc)

unless-ok : {A : Type 0} (b : Bool) (refusal : CertRefusal) (rest : Result A CertRefusal) (out : A)
    → cond b (Err refusal) rest ≡ Ok out → (b ≡ false) × (rest ≡ Ok out)
unless-ok true refusal rest out ok = absurd (cc)
unless-ok false refusal rest out ok = (refl, ok)

ok-equal : {A : Type 0} (x y : A) → ◌≡◌ {A = Result A CertRefusal} (Ok x) (Ok y) → x ≡ y
ok-equal x y equal = cc

otherwise-ok : {A : Type 0} (b : Bool) (refusal : CertRefusal) (said : Result A CertRefusal) (out : A)
    → cond b said (Err refusal) ≡ Ok out → (b ≡ true) × (said ≡ Ok out)
otherwise-ok true refusal said out ok = (refl, ok)
otherwise-ok false refusal said out ok = absurd (cc)

or-none : (a b : Bool) → (a || b) ≡ false → (a ≡ false) × (b ≡ false)
or-none true b none = absurd (cc)
or-none false b none = (refl, none)

positive : (n : ℕ) → (n ≡ 0 → ⊥) → 0 < n
positive zero some = absurd (some refl)
positive (suc n) some = omega arith

-- where there is a potential there is an FPGA, and nets do not grow
some-fpga : (grows : Bool) (fpgas count : ℕ) → ((grows || fpgas == 0) && nat_lt 0 count) ≡ false → 0 < count
    → 0 < fpgas
some-fpga grows fpgas zero none some = absurd (omega arith)
some-fpga true fpgas (suc count) none some = grind (arith)
some-fpga false zero (suc count) none some = grind (arith)
some-fpga false (suc fpgas) (suc count) none some = omega arith

none-grown : (grows : Bool) (fpgas count : ℕ) → ((grows || fpgas == 0) && nat_lt 0 count) ≡ false
    → grows ≡ true → count ≡ 0
none-grown grows fpgas zero none is = refl
none-grown true fpgas (suc count) none is = grind (arith)
none-grown false fpgas (suc count) none is = absurd (cc)

-- ---- single lines

-- the kind of a number
kind-within : (line kind unit : ℕ) (out : CertKind) → kind_said line kind unit ≡ Ok out → HasUnit out
kind-within line kind unit out ok = by (kind == 1) (kind == 2) (unit == 0) (nat_lt most_unit unit) refl refl
    ok
  where
    by : (share hop none large : Bool) → (unit == 0) ≡ none → nat_lt most_unit unit ≡ large
        → cond share (cond none (Ok Share) (refused BadUnit line))
        (cond hop (cond (none || large) (refused BadUnit line) (Ok (Hop unit))) (refused BadKind line))
        ≡ Ok out → HasUnit out
    by true hop true large is_none is_large ok = subst HasUnit (ok-equal Share out ok) tt
    by true hop false large is_none is_large ok = absurd (cc)
    by false true true large is_none is_large ok = absurd (cc)
    by false true false true is_none is_large ok = absurd (cc)
    by false true false false is_none is_large ok =
        subst HasUnit (ok-equal (Hop unit) out ok) (
          positive unit (eqb-false unit 0 is_none),
          ltb-false most_unit unit is_large,
        )
    by false false none large is_none is_large ok = absurd (cc)

-- how many potentials there are
count-within : (grows : Bool) (fpgas line count out : ℕ) → count_said grows fpgas line count ≡ Ok out
    → (out ≤ most_potentials) × (0 < out → 0 < fpgas) × (grows ≡ true → out ≡ 0)
count-within grows fpgas line count out ok =
    let said = unless-ok (nat_lt most_potentials count || ((grows || fpgas == 0) && nat_lt 0 count))
    _ (Ok count) out ok in
    let both = or-none (nat_lt most_potentials count) ((grows || fpgas == 0) && nat_lt 0 count) said.0 in
    let equal = ok-equal count out said.1 in
    subst (λ n. (n ≤ most_potentials) × (0 < n → 0 < fpgas) × (grows ≡ true → n ≡ 0)) equal (
      ltb-false most_potentials count both.0,
      some-fpga grows fpgas count both.1,
      none-grown grows fpgas count both.1,
    )

-- a header
record IsHeader (fpgas : ℕ) (header : Header) : Type 0 where
  kind : HasUnit header.kind
  few : header.potentials ≤ most_potentials
  some : 0 < header.potentials → 0 < fpgas
  grown : header.grows ≡ true → header.potentials ≡ 0

header-within : (fpgas line : ℕ) (numbers : List ℕ) (out : Header) → header_said fpgas line numbers ≡ Ok out
    → IsHeader fpgas out
header-within fpgas line [] out ok = absurd (cc)
header-within fpgas line (a ∷ []) out ok = absurd (cc)
header-within fpgas line (a ∷ b ∷ []) out ok = absurd (cc)
header-within fpgas line (a ∷ b ∷ c ∷ []) out ok = absurd (cc)
header-within fpgas line (version ∷ kind ∷ unit ∷ count ∷ []) out ok =
    let grown = bind-ok (grows_said line version) _ out ok in
    let kinded = bind-ok (kind_said line kind unit) _ out grown.2 in
    let counted = bind-ok (count_said grown.0 fpgas line count) _ out kinded.2 in
    let counts = count-within grown.0 fpgas line count counted.0 counted.1 in
    subst (IsHeader fpgas) (ok-equal _ out counted.2) (record {
      kind = kind-within line kind unit kinded.0 kinded.1;
      few = counts.0;
      some = counts.1;
      grown = counts.2;
    })
header-within fpgas line (a ∷ b ∷ c ∷ d ∷ e ∷ more) out ok = absurd (cc)

-- a line of one number
number-within : (above : CertTextKind) (limit line : ℕ) (numbers : List ℕ) (out : ℕ)
    → number_said above limit line numbers ≡ Ok out → out ≤ limit
number-within above limit line [] out ok = absurd (cc)
number-within above limit line (n ∷ []) out ok =
    let said = unless-ok (nat_lt limit n) _ (Ok n) out ok in
    subst (λ m. m ≤ limit) (ok-equal n out said.1) (ltb-false limit n said.0)
number-within above limit line (n ∷ m ∷ more) out ok = absurd (cc)

-- the line of a potential
potential-within : (fpgas line : ℕ) (numbers out : List ℕ) → potential_said fpgas line numbers ≡ Ok out
    → (numbers ≡ out) × (length out ≡ fpgas)
potential-within fpgas line numbers out ok =
    let said = otherwise-ok (length numbers == fpgas) _ (Ok numbers) out ok in
    let equal = ok-equal numbers out said.1 in
    (equal, ap length (sym equal) ∙ eqb-true (length numbers) fpgas said.0)

-- ---- lines one after another

-- no line has a number above the largest
abbrev AreWithin : ℕ → List Line → Type 0
AreWithin largest [] = Unit {0}
AreWithin largest (line ∷ later) = All (λ n. n ≤ largest) line.numbers × AreWithin largest later

AreWithin-put_line : (largest n : ℕ) (toks : List (List ℕ)) (later : List Line) → AreWithin largest later
    → AreWithin largest (put_line largest n toks later)
AreWithin-put_line largest n [] later are = are
AreWithin-put_line largest n (t ∷ ts) later are = (numbers_of-within largest (t ∷ ts), are)

AreWithin-lines_from : (largest n : ℕ) (pieces : List (List ℕ))
    → AreWithin largest (lines_from largest n pieces)
AreWithin-lines_from largest n [] = tt
AreWithin-lines_from largest n (piece ∷ more) =
    AreWithin-put_line largest n (tokens piece) (lines_from largest (n + 1) more)
    (AreWithin-lines_from largest (n + 1) more)

unless_bad-ok : (fault : Option TokenFault) (line : Line) (more : List Line) (out : Line × List Line)
    → unless_bad of_token fault line more ≡ Ok out → (line, more) ≡ out
unless_bad-ok None line more out ok = ok-equal (line, more) out ok
unless_bad-ok (Some bad) line more out ok = absurd (cc)

unless_more-ok : (cert : Cert) (lines : List Line) (out : Cert) → unless_more cert lines ≡ Ok out → cert ≡ out
unless_more-ok cert [] out ok = ok-equal cert out ok
unless_more-ok cert (line ∷ more) out ok = absurd (cc)

module _ (after largest : ℕ) where
  next_line-within : (missing : CertTextKind) (lines : List Line) (out : Line × List Line)
      → next_line after missing lines ≡ Ok out → AreWithin largest lines
      → All (λ n. n ≤ largest) out.0.numbers × AreWithin largest out.1
  next_line-within missing [] out ok are = absurd (cc)
  next_line-within missing (line ∷ more) out ok are =
      subst (λ (next : Line × List Line). All (λ n. n ≤ largest) next.0.numbers × AreWithin largest next.1)
      (unless_bad-ok line.fault line more out ok) are

  module _ {A : Type 0} (said : ℕ → List ℕ → Result A CertRefusal) (P : A
      → Type 0) (holds : (line : ℕ) (numbers : List ℕ) (x : A) → All (λ n. n ≤ largest) numbers
      → said line numbers ≡ Ok x → P x) where
    -- what a line says
    line-says : (missing : CertTextKind) (lines : List Line) (out : A × List Line)
        → line_from after missing said lines ≡ Ok out → AreWithin largest lines
        → P out.0 × AreWithin largest out.1
    line-says missing lines out ok are =
        let next = bind-ok (next_line after missing lines) _ out ok in
        let within = next_line-within missing lines next.0 next.1 are in
        let read = bind-ok (said next.0.0.number next.0.0.numbers) _ out next.2 in
        subst (λ (o : A × List Line). P o.0 × AreWithin largest o.1) (ok-equal _ out read.2)
        (holds next.0.0.number next.0.0.numbers read.0 within.0 read.1, within.1)

    -- what so many lines say
    section-says : (count : ℕ) (lines : List Line) (out : List A × List Line)
        → section_from after said count lines ≡ Ok out → AreWithin largest lines → All P out.0
        × (length out.0 ≡ count) × AreWithin largest out.1
    section-says zero lines out ok are = subst (λ (o : List A × List Line). All P o.0 × (length o.0 ≡ 0)
        × AreWithin largest o.1) (ok-equal ([], lines) out ok) (All-nil P, refl, are)
    section-says (suc count) lines out ok are =
        let first = bind-ok (line_from after MissingLine said lines) _ out ok in
        let here = line-says MissingLine lines first.0 first.1 are in
        let rest = bind-ok (section_from after said count first.0.1) _ out first.2 in
        let later = section-says count first.0.1 rest.0 rest.1 here.1 in
        subst (λ (o : List A × List Line). All P o.0 × (length o.0 ≡ suc count) × AreWithin largest o.1)
        (ok-equal _ out rest.2) (All-cons P first.0.0 rest.0.0 here.0 later.0, ap suc later.1, later.2)

  -- the lengths, as the kind has them
  lengths-say : (kind : CertKind) (wires : ℕ) (lines : List Line) (out : List ℕ × List Line) → HasUnit kind
      → lengths_from after kind wires lines ≡ Ok out → AreWithin largest lines → HasLengths kind out.0
      × (length out.0 ≡ wires) × AreWithin largest out.1
  lengths-say Share wires lines out has ok are =
      section-says (number_said LengthLimit most_length) (λ l. l ≤ most_length)
      (λ line numbers x within. number-within LengthLimit most_length line numbers x) wires lines out ok
      are
  lengths-say (Hop unit) wires lines out has ok are =
      subst (λ (o : List ℕ × List Line). HasLengths (Hop unit) o.0 × (length o.0 ≡ wires)
      × AreWithin largest o.1) (ok-equal (replicate wires unit, lines) out ok)
      ((has.0, has.1, All-replicate (λ l. l ≡ unit) wires unit refl), length-replicate wires unit, are)

-- ---- the whole text

-- a potential has a value for each FPGA
record IsPotentialOf (fpgas : ℕ) (potential : List ℕ) : Type 0 where
  is : IsPotential potential
  count : length potential ≡ fpgas

potential-holds : (fpgas line : ℕ) (numbers out : List ℕ) → 0 < fpgas
    → All (λ n. n ≤ most_potential_value) numbers → potential_said fpgas line numbers ≡ Ok out
    → IsPotentialOf fpgas out
potential-holds fpgas line numbers out some within ok =
    let said = potential-within fpgas line numbers out ok in
    record {
      is = record {
        some = omega (arith, said.1);
        values = subst (All (λ n. n ≤ most_potential_value)) said.0 within;
      };
      count = said.1;
    }

-- the potentials, of which there are none where there are no FPGAs
potentials-say : (after fpgas count : ℕ) (lines : List Line) (out : List (List ℕ) × List Line)
    → (0 < count → 0 < fpgas) → section_from after (potential_said fpgas) count lines ≡ Ok out
    → AreWithin most_potential_value lines
    → All (IsPotentialOf fpgas) out.0 × (length out.0 ≡ count) × AreWithin most_potential_value out.1
potentials-say after fpgas zero lines out some ok are =
    subst (λ (o : List (List ℕ) × List Line). All (IsPotentialOf fpgas) o.0 × (length o.0 ≡ 0)
    × AreWithin most_potential_value o.1) (ok-equal ([], lines) out ok)
    (All-nil (IsPotentialOf fpgas), refl, are)
potentials-say after fpgas (suc count) lines out some ok are =
    section-says after most_potential_value (potential_said fpgas) (IsPotentialOf fpgas)
    (λ line numbers x within said. potential-holds fpgas line numbers x (some (omega arith)) within said)
    (suc count) lines out ok are

-- the choices are of potentials that are there
choices-say : (after largest : ℕ) (grows : Bool) (potentials nets : ℕ) (lines : List Line) (out : List ℕ
    × List Line) → choices_from after grows potentials nets lines ≡ Ok out → AreWithin largest lines
    → All (λ c. c ≤ potentials) out.0 × (length out.0 ≡ nets) × AreWithin largest out.1
choices-say after largest true potentials nets lines out ok are =
    subst (λ (o : List ℕ × List Line). All (λ c. c ≤ potentials) o.0 × (length o.0 ≡ nets)
    × AreWithin largest o.1) (ok-equal (replicate nets 0, lines) out ok) (
      All-replicate (λ c. c ≤ potentials) nets 0 (omega arith),
      length-replicate nets (let none : ℕ = 0 in none),
      are,
    )
choices-say after largest false potentials nets lines out ok are =
    section-says after largest (number_said UnknownPotential potentials) (λ c. c ≤ potentials)
    (λ line numbers x within. number-within UnknownPotential potentials line numbers x) nets lines out ok
    are

accepted-lines : (after : ℕ) (board : Board) (lines : List Line) (cert : Cert)
    → AreWithin most_potential_value lines → cert_from after board lines ≡ Ok cert → IsCert cert
    × IsCertFor board cert
accepted-lines after board lines cert are ok =
    let header = bind-ok (line_from after NoHeader (header_said board.fpgas) lines) _ cert ok in
    let headed = line-says after most_potential_value (header_said board.fpgas) (IsHeader board.fpgas)
    (λ line numbers x within. header-within board.fpgas line numbers x) NoHeader lines header.0 header.1
    are in
    let weights = bind-ok (section_from after (number_said WeightLimit most_weight) (length board.groups)
    header.0.1) _ cert header.2 in
    let weighed = section-says after most_potential_value (number_said WeightLimit most_weight)
    (λ w. w ≤ most_weight) (λ line numbers x within. number-within WeightLimit most_weight line numbers x)
    (length board.groups) header.0.1 weights.0 weights.1 headed.1 in
    let lengths = bind-ok (lengths_from after header.0.0.kind (length board.wires) weights.0.1) _ cert
    weights.2 in
    let measured = lengths-say after most_potential_value header.0.0.kind (length board.wires) weights.0.1
    lengths.0 headed.0.kind lengths.1 weighed.2 in
    let potentials = bind-ok (section_from after (potential_said board.fpgas) header.0.0.potentials
    lengths.0.1) _ cert lengths.2 in
    let valued = potentials-say after board.fpgas header.0.0.potentials lengths.0.1 potentials.0 headed.0.some
    potentials.1 measured.2 in
    let choices = bind-ok (choices_from after header.0.0.grows header.0.0.potentials
    (length board.nets) potentials.0.1) _ cert potentials.2 in
    let chosen = choices-say after most_potential_value header.0.0.grows header.0.0.potentials
    (length board.nets) potentials.0.1 choices.0 choices.1 valued.2 in
    subst (λ (c : Cert). IsCert c × IsCertFor board c) (unless_more-ok _ choices.0.1 cert choices.2) (
      record {
        weights = weighed.0;
        lengths = measured.0;
        potential_limit = omega (arith, headed.0.few, valued.1);
        grown = λ grows. omega (arith, headed.0.grown grows, valued.1);
        potentials = All-weaker (IsPotentialOf board.fpgas) IsPotential (λ potential is. is.is) potentials.0.0
            valued.0;
        choices = subst (λ count. All (λ c. c ≤ count) choices.0.0) (sym valued.1) chosen.0;
      },
      record {
        weights = weighed.1;
        lengths = measured.1;
        potentials = All-weaker (IsPotentialOf board.fpgas) (λ potential. length potential ≡ board.fpgas)
            (λ potential is. is.count) potentials.0.0 valued.0;
        choices = chosen.1;
      },
    )

-- the certificate that a text says is one for the board, and its numbers keep to their ranges
accepted : (board : Board) (text : List ℕ) (cert : Cert) → cert_of board text ≡ Ok cert → IsCert cert
    × IsCertFor board cert
accepted board text cert ok =
    accepted-lines (line_after text) board (lines most_potential_value text) cert
    (AreWithin-lines_from most_potential_value 1 (pieces text)) (unless-ok _ _ _ cert ok).1

pub accepted-cert : (board : Board) (text : List ℕ) (cert : Cert) → cert_of board text ≡ Ok cert → IsCert cert
accepted-cert board text cert ok = (accepted board text cert ok).0

pub accepted-for : (board : Board) (text : List ℕ) (cert : Cert) → cert_of board text ≡ Ok cert
    → IsCertFor board cert
accepted-for board text cert ok = (accepted board text cert ok).1
