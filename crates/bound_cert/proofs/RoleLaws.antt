-- What a line makes of what is said, and that what is kept stays within its ranges.
use Rattle.std.proofs.Common.{◌≡◌, ◌≢◌, ℕ, suc, ◌+◌, ◌-◌, ◌<◌, ◌≤◌, ◌^◌, List, [], ◌∷◌, ◌++◌, length, take, All, Option, None, Some, Result, Ok, Err, refl, sym, ap, ◌∙◌, subst, ⊎_elim, arith, append_assoc, length-take-le, get_or}
use Rattle.std.proofs.lemmas.Bool.{le-ltb, ne_eqb, cases_lt}
use Rattle.std.proofs.lemmas.List.{append-nil, take_all}
use Rattle.std.proofs.lemmas.List.Elements.{All-push}
use Rattle.tdm_lines.specs.declared.line.TokenFault.{TokenFault}
use Rattle.tdm_lines.specs.FirstNumbers.{Firsts}
use Rattle.tdm_lines.specs.Lines.{Line, lines, line_after}
use Rattle.tdm_lines.specs.SoFar.{ended_line}
use Rattle.tdm_problem.specs.Board.{Board}
use Rattle.tdm_problem.specs.Limits.{most_weight}
use Rattle.bound_cert.specs.declared.certificate.CertKind.{CertKind}
use Rattle.bound_cert.specs.declared.certificate.CertKind.TheVariants.{Share}
use Rattle.bound_cert.specs.declared.header.Header.{Header}
use Rattle.tdm_lines.specs.declared.refusal.ReadingFault.TheVariants.{Refused, NoMemory}
use Rattle.bound_cert.specs.CertKinds.{CertRefusal, CertFault, of_token}
use Rattle.bound_cert.specs.declared.refusal.CertTextKind.{CertTextKind}
use Rattle.bound_cert.specs.declared.refusal.CertTextKind.TheVariants.{MissingLine}
use Rattle.bound_cert.specs.declared.state.Sizes.{Sizes}
use Rattle.bound_cert.specs.Certificate.{Cert, HasLengths, IsPotential}
use Rattle.bound_cert.specs.CertReader.{listed, sizes_of}
use Rattle.tdm_lines.specs.Refusals.{IsFaultOf, refused, clean, ◌>>=◌}
use Rattle.bound_cert.specs.CertReading.{header_said, number_said, potential_said, section_from, cert_of}
use Rattle.bound_cert.specs.Limits.{most_length, most_potential_value}
use Rattle.bound_cert.specs.Roles.{line_said, in_section, from_header, past_header, IsKept}

-- ---- one line

-- a line is refused for its tokens
pub fault-first : {A : Type 0} (said : ℕ → List ℕ → Result A CertRefusal) (fault : CertFault) (n : ℕ)
    (tokens : Option TokenFault) (numbers : List ℕ) → IsFaultOf fault (clean of_token n tokens)
    → IsFaultOf fault (line_said said n tokens numbers)
fault-first said NoMemory n tokens numbers is = tt
fault-first said (Refused refusal) n tokens numbers is = rw is refl

-- a line without a fault says what the numbers say that are kept of it
pub kept-says : {A : Type 0} (said : ℕ → List ℕ → Result A CertRefusal) (n most : ℕ)
    (tokens : Option TokenFault) (kept numbers : List ℕ) → tokens ≡ None
    → (tokens ≡ None → kept ≡ take most numbers) → said n (take most numbers) ≡ said n numbers
    → line_said said n tokens numbers ≡ said n kept
kept-says said n most tokens kept numbers none taken same =
    ap (λ (t : Option TokenFault). line_said said n t numbers) none ∙ sym (ap (said n) (taken none) ∙ same)

-- the first numbers tell as much as all
pub number-first : (above : CertTextKind) (limit line fpgas : ℕ) (numbers : List ℕ)
    → number_said above limit line (take (fpgas + 5) numbers) ≡ number_said above limit line numbers
number-first above limit line fpgas numbers =
    let two : fpgas + 5 ≡ suc (suc (fpgas + 3)) = omega arith in
    ap (λ k. number_said above limit line (take k numbers)) two ∙ first numbers
  where
    first : (ns : List ℕ) → number_said above limit line (take (suc (suc (fpgas + 3))) ns)
        ≡ number_said above limit line ns
    first [] = refl
    first (a ∷ []) = refl
    first (a ∷ b ∷ more) = refl

pub header-first : (line fpgas : ℕ) (numbers : List ℕ) → header_said fpgas line (take (fpgas + 5) numbers)
    ≡ header_said fpgas line numbers
header-first line fpgas numbers =
    let five : fpgas + 5 ≡ suc (suc (suc (suc (suc fpgas)))) = omega arith in
    ap (λ k. header_said fpgas line (take k numbers)) five ∙ first numbers
  where
    first : (ns : List ℕ) → header_said fpgas line (take (suc (suc (suc (suc (suc fpgas))))) ns)
        ≡ header_said fpgas line ns
    first [] = refl
    first (a ∷ []) = refl
    first (a ∷ b ∷ []) = refl
    first (a ∷ b ∷ c ∷ []) = refl
    first (a ∷ b ∷ c ∷ d ∷ []) = refl
    first (a ∷ b ∷ c ∷ d ∷ e ∷ more) = refl

pub potential-first : (line fpgas : ℕ) (numbers : List ℕ)
    → potential_said fpgas line (take (fpgas + 5) numbers) ≡ potential_said fpgas line numbers
potential-first line fpgas numbers =
    ⊎_elim (λ above. long above) (λ short. ap (potential_said fpgas line)
    (take_all (fpgas + 5) numbers (omega (arith, short)))) (cases_lt (fpgas + 5) (length numbers))
  where
    long : fpgas + 5 < length numbers → potential_said fpgas line (take (fpgas + 5) numbers)
        ≡ potential_said fpgas line numbers
    long above =
        let cut : length (take (fpgas + 5) numbers) ≡ fpgas + 5 =
        length-take-le (fpgas + 5) numbers (omega (arith, above)) in
        let few : length (take (fpgas + 5) numbers) ≢ fpgas = λ e. omega (arith, cut, e) in
        let many : length numbers ≢ fpgas = λ e. omega (arith, above, e) in
        rw (ne_eqb _ fpgas few, ne_eqb _ fpgas many) refl

-- ---- a section

-- what a line says, and the lines behind it
abbrev with_lines : {A : Type 0} → List Line → A → Result (A × List Line) CertRefusal
with_lines more x = Ok (x, more)

-- what a line says before what the lines behind it say
abbrev with_first : {A : Type 0} → A → List A × List Line → Result (List A × List Line) CertRefusal
with_first x rest = Ok (x ∷ rest.0, rest.1)

module _ (after : ℕ) {A : Type 0} (said : ℕ → List ℕ → Result A CertRefusal) (next : List A → List Line
    → Result Cert CertRefusal) where
  -- no line is left
  pub section-done : (left : ℕ) (front : List A) (lines : List Line) → left ≡ 0
      → in_section after said next left front lines ≡ next front lines
  section-done left front lines none = ap (λ k. in_section after said next k front lines) none
      ∙ ap (λ xs. next xs lines) (append-nil front)

  -- a line is missing
  pub section-missing : (left : ℕ) (front : List A) → 0 < left → in_section after said next left front []
      ≡ refused MissingLine after
  section-missing left front some =
      let one : left ≡ suc (left - 1) = omega arith in
      ap (λ k. in_section after said next k front []) one

  -- one line more, and those behind it
  behind : (front : List A) (x : A) (rest : Result (List A × List Line) CertRefusal)
      → (rest >>= with_first x >>= λ r. next (front ++ r.0) r.1)
      ≡ (rest >>= λ r. next ((front ++ x ∷ []) ++ r.0) r.1)
  behind front x (Ok r) = ap (λ xs. next xs r.1) (sym (append_assoc front (x ∷ []) r.0))
  behind front x (Err refusal) = refl

  here : (left : ℕ) (front : List A) (more : List Line) (x : Result A CertRefusal)
      → (x >>= with_lines more >>= (λ first. section_from after said left first.1 >>= with_first first.0) >>=
      λ r. next (front ++ r.0) r.1)
      ≡ (x >>= λ y. in_section after said next left (front ++ y ∷ []) more)
  here left front more (Ok x) = behind front x (section_from after said left more)
  here left front more (Err refusal) = refl

  one-more : (left : ℕ) (front : List A) (n : ℕ) (fault : Option TokenFault) (numbers : List ℕ)
      (more : List Line)
      → in_section after said next (suc left) front (ended_line n fault numbers ∷ more)
      ≡ (line_said said n fault numbers >>= λ x. in_section after said next left (front ++ x ∷ []) more)
  one-more left front n None numbers more = here left front more (said n numbers)
  one-more left front n (Some f) numbers more = refl

  pub section-line : (left : ℕ) (front : List A) (n : ℕ) (fault : Option TokenFault) (numbers : List ℕ)
      (more : List Line) → 0 < left
      → in_section after said next left front (ended_line n fault numbers ∷ more)
      ≡ (line_said said n fault numbers >>= λ x. in_section after said next (left - 1)
      (front ++ x ∷ []) more)
  section-line left front n fault numbers more some =
      let one : left ≡ suc (left - 1) = omega arith in
      ap (λ k. in_section after said next k front (ended_line n fault numbers ∷ more)) one
      ∙ one-more (left - 1) front n fault numbers more

  -- one line more that is refused, or says something
  pub section-refused : (left : ℕ) (front : List A) (n : ℕ) (tokens : Option TokenFault) (numbers : List ℕ)
      (more : List Line) (fault : CertFault) → 0 < left → IsFaultOf fault (line_said said n tokens numbers)
      → IsFaultOf fault (in_section after said next left front (ended_line n tokens numbers ∷ more))
  section-refused left front n tokens numbers more NoMemory some is = tt
  section-refused left front n tokens numbers more (Refused refusal) some is =
      section-line left front n tokens numbers more some
      ∙ ap (λ r. r >>= λ x. in_section after said next (left - 1) (front ++ x ∷ []) more) is

  pub section-taken : (left : ℕ) (front front' : List A) (n : ℕ) (fault : Option TokenFault)
      (numbers : List ℕ) (more : List Line) (x : A) → 0 < left → line_said said n fault numbers ≡ Ok x
      → front' ≡ front ++ x ∷ []
      → in_section after said next left front (ended_line n fault numbers ∷ more)
      ≡ in_section after said next (left - 1) front' more
  section-taken left front front' n fault numbers more x some is grown =
      section-line left front n fault numbers more some
      ∙ ap (λ r. r >>= λ y. in_section after said next (left - 1) (front ++ y ∷ []) more) is
      ∙ ap (λ xs. in_section after said next (left - 1) xs more) (sym grown)

-- ---- the header and the whole text

through : {A : Type 0} (next : A → List Line → Result Cert CertRefusal) (more : List Line)
    (x : Result A CertRefusal) → (x >>= with_lines more >>= λ first. next first.0 first.1)
    ≡ (x >>= λ y. next y more)
through next more (Ok x) = refl
through next more (Err refusal) = refl

header-line : (after : ℕ) (sizes : Sizes) (n : ℕ) (fault : Option TokenFault) (numbers : List ℕ)
    (more : List Line)
    → from_header after sizes (ended_line n fault numbers ∷ more)
    ≡ (line_said (header_said sizes.fpgas) n fault numbers >>= λ header. past_header after sizes header
    more)
header-line after sizes n None numbers more =
    through (past_header after sizes) more (header_said sizes.fpgas n numbers)
header-line after sizes n (Some f) numbers more = refl

pub header-refused : (after : ℕ) (sizes : Sizes) (n : ℕ) (tokens : Option TokenFault) (numbers : List ℕ)
    (more : List Line) (fault : CertFault)
    → IsFaultOf fault (line_said (header_said sizes.fpgas) n tokens numbers)
    → IsFaultOf fault (from_header after sizes (ended_line n tokens numbers ∷ more))
header-refused after sizes n tokens numbers more NoMemory is = tt
header-refused after sizes n tokens numbers more (Refused refusal) is =
    header-line after sizes n tokens numbers more
    ∙ ap (λ (r : Result Header CertRefusal). r >>= λ header. past_header after sizes header more) is

pub header-taken : (after : ℕ) (sizes : Sizes) (n : ℕ) (fault : Option TokenFault) (numbers : List ℕ)
    (more : List Line) (header : Header) → line_said (header_said sizes.fpgas) n fault numbers ≡ Ok header
    → from_header after sizes (ended_line n fault numbers ∷ more) ≡ past_header after sizes header more
header-taken after sizes n fault numbers more header is =
    header-line after sizes n fault numbers more
    ∙ ap (λ (r : Result Header CertRefusal). r >>= λ h. past_header after sizes h more) is

-- a text that is not too long is read line by line
pub whole-is : (board : Board) (text : List ℕ) → length text ≤ 2 ^ 30
    → cert_of board text ≡ from_header (line_after text) (sizes_of board) (lines most_potential_value text)
whole-is board text short = rw (le-ltb (2 ^ 30) (length text) short) refl

-- ---- what is kept

module _ (kept : Firsts) (sizes : Sizes) (potentials : ℕ) (cert : Cert)
    (is : IsKept kept sizes potentials cert) where
  -- with one weight more
  pub kept-weight : (weights : List ℕ) (w : ℕ) → w ≤ most_weight → weights ≡ cert.weights ++ w ∷ []
      → IsKept kept sizes potentials (record cert { weights = weights })
  kept-weight weights w le grown = record {
    most = is.most;
    largest = is.largest;
    few = is.few;
    some = is.some;
    grown = is.grown;
    weights = rw grown (All-push (λ n. n ≤ most_weight) cert.weights w is.weights le);
    lengths = is.lengths;
    potentials_are = is.potentials_are;
    choices = is.choices;
  }

  -- with one length more
  pub kept-length : (lengths : List ℕ) (l : ℕ) → cert.kind ≡ Share → l ≤ most_length
      → lengths ≡ cert.lengths ++ l ∷ [] → IsKept kept sizes potentials (record cert { lengths = lengths })
  kept-length lengths l share le grown =
      let before : All (λ n. n ≤ most_length) cert.lengths =
      subst (λ (k : CertKind). HasLengths k cert.lengths) share is.lengths in
      let now : All (λ n. n ≤ most_length) lengths =
      rw grown (All-push (λ n. n ≤ most_length) cert.lengths l before le) in
      record {
        most = is.most;
        largest = is.largest;
        few = is.few;
        some = is.some;
        grown = is.grown;
        weights = is.weights;
        lengths = subst (λ (k : CertKind). HasLengths k lengths) (sym share) now;
        potentials_are = is.potentials_are;
        choices = is.choices;
      }

  -- with one potential more
  pub kept-potential : (rows : List (List ℕ)) (row : List ℕ) → 0 < potentials → length row ≡ sizes.fpgas
      → All (λ v. v ≤ most_potential_value) row → rows ≡ cert.potentials ++ row ∷ []
      → IsKept kept sizes potentials (record cert { potentials = rows })
  kept-potential rows row there count within grown =
      let fpgas : 0 < sizes.fpgas = is.some there in
      let one : IsPotential row = record { some = omega (arith, fpgas, count); values = within } in
      record {
        most = is.most;
        largest = is.largest;
        few = is.few;
        some = is.some;
        grown = is.grown;
        weights = is.weights;
        lengths = is.lengths;
        potentials_are = rw grown (All-push IsPotential cert.potentials row is.potentials_are one);
        choices = is.choices;
      }

  -- with one choice more
  pub kept-choice : (choices : List ℕ) (c : ℕ) → c ≤ potentials → choices ≡ cert.choices ++ c ∷ []
      → IsKept kept sizes potentials (record cert { choices = choices })
  kept-choice choices c le grown = record {
    most = is.most;
    largest = is.largest;
    few = is.few;
    some = is.some;
    grown = is.grown;
    weights = is.weights;
    lengths = is.lengths;
    potentials_are = is.potentials_are;
    choices = rw grown (All-push (λ n. n ≤ potentials) cert.choices c is.choices le);
  }

pub same-sizes : (a b : Sizes) → listed a ≡ listed b → a ≡ b
same-sizes a b same = ap (λ (xs : List ℕ). record {
  fpgas = get_or xs 0 0;
  groups = get_or xs 1 0;
  wires = get_or xs 2 0;
  nets = get_or xs 3 0;
}) same
