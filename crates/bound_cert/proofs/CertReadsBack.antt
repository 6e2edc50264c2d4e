-- What is written reads back.
use Rattle.std.proofs.Common.{◌≡◌, ℕ, suc, ◌+◌, ◌<◌, ◌≤◌, ◌^◌, true, false, ◌&&◌, ◌||◌, Bool, nat_eq, List, [], ◌∷◌, ◌++◌, length, replicate, get_or, All, Result, Ok, refl, sym, ap, ◌∙◌, arith, append_assoc}
use Rattle.std.specs.List.{flat_map}
use Rattle.std.proofs.lemmas.List.{append-nil}
use Rattle.std.proofs.lemmas.List.Elements.{All-nil, All-cons, All-head, All-tail, All-weaker}
use Rattle.std.proofs.lemmas.Bool.{ne_eqb, eq-eqb, le-ltb}
use Rattle.tdm_problem.specs.Board.{Board}
use Rattle.tdm_problem.specs.Limits.{most_weight}
use Rattle.tdm_lines.specs.Lines.{pieces, lines_from, lines, line_after}
use Rattle.tdm_lines.specs.Written.{line_text, IsRow}
use Rattle.tdm_lines.proofs.WrittenLemmas.{lines_from-line_text}
use Rattle.bound_cert.specs.declared.certificate.CertKind.{CertKind}
use Rattle.bound_cert.specs.declared.certificate.CertKind.TheVariants.{Share, Hop}
use Rattle.bound_cert.specs.Limits.{most_length, most_unit, most_potentials, most_potential_value}
use Rattle.bound_cert.specs.declared.refusal.CertTextKind.{CertTextKind}
use Rattle.bound_cert.specs.declared.refusal.CertTextKind.TheVariants.{NoHeader, WeightLimit, LengthLimit, UnknownPotential, MissingLine}
use Rattle.bound_cert.specs.CertKinds.{CertRefusal}
use Rattle.bound_cert.specs.Certificate.{Cert, IsCert, IsCertFor, IsPotential, HasLengths}
use Rattle.bound_cert.specs.CertText.{version_of, number_of_kind, unit_of_kind, listed_lengths, listed_choices, header_row, number_line, cert_text}
use Rattle.bound_cert.specs.CertReading.{grows_said, kind_said, count_said, header_said, number_said, potential_said, line_from, section_from, lengths_from, choices_from, cert_from, cert_of}

-- a row that says a thing, wherever its line stands
record Says {A : Type 0} (said : ℕ → List ℕ → Result A CertRefusal) (row : List ℕ) (x : A) : Type 0 where
  is_row : IsRow most_potential_value row
  says : (n : ℕ) → said n row ≡ Ok x

module _ (after : ℕ) {A : Type 0} (said : ℕ → List ℕ → Result A CertRefusal) where
  -- a line is read as what its row says
  line_read : (missing : CertTextKind) (row : List ℕ) (x : A) (n : ℕ) (rest : List ℕ) → Says said row x
      → line_from after missing said (lines_from most_potential_value n (pieces (line_text row ++ rest)))
      ≡ Ok (x, lines_from most_potential_value (n + 1) (pieces rest))
  line_read missing row x n rest is =
      rw (lines_from-line_text most_potential_value (omega arith) n row rest is.is_row, is.says n) refl

  module _ (row : A → List ℕ) where
    -- lines are read as what their rows say
    section_read : (xs : List A) (n : ℕ) (rest : List ℕ) → All (λ x. Says said (row x) x) xs
        → section_from after said (length xs)
        (lines_from most_potential_value n (pieces (flat_map (λ x. line_text (row x)) xs ++ rest)))
        ≡ Ok (xs, lines_from most_potential_value (n + length xs) (pieces rest))
    section_read [] n rest all = let here : n + 0 ≡ n = omega arith in rw here refl
    section_read (x ∷ xs) n rest all =
        let others : List ℕ = flat_map (λ y. line_text (row y)) xs in
        let last : n + 1 + length xs ≡ n + suc (length xs) = omega arith in
        rw (
          append_assoc (line_text (row x)) others rest,
          line_read MissingLine (row x) x n (others ++ rest) (All-head (λ y. Says said (row y) y) x xs all),
          section_read xs (n + 1) rest (All-tail (λ y. Says said (row y) y) x xs all),
          last,
        ) refl

-- ---- what the rows say

-- a row of one number within the limit
number_says : (above : CertTextKind) (limit n : ℕ) → limit ≤ most_potential_value → n ≤ limit
    → Says (number_said above limit) (n ∷ []) n
number_says above limit n most le = record {
  is_row = record {
    some = omega arith;
    within = All-cons (λ m. m ≤ most_potential_value) n [] (omega arith)
        (All-nil (λ m. m ≤ most_potential_value));
  };
  says = λ line. rw (le-ltb limit n le) refl;
}

numbers_say : (above : CertTextKind) (limit : ℕ) (numbers : List ℕ) → limit ≤ most_potential_value
    → All (λ n. n ≤ limit) numbers → All (λ n. Says (number_said above limit) (n ∷ []) n) numbers
numbers_say above limit numbers most within =
    All-weaker (λ n. n ≤ limit) (λ n. Says (number_said above limit) (n ∷ []) n)
    (λ n le. number_says above limit n most le) numbers within

-- the row of a potential
potential_says : (fpgas : ℕ) (values : List ℕ) → IsPotential values → length values ≡ fpgas
    → Says (potential_said fpgas) values values
potential_says fpgas values is count = record {
  is_row = record { some = is.some; within = is.values };
  says = λ line. rw (eq-eqb (length values) fpgas count) refl;
}

potentials_say : (fpgas : ℕ) (potentials : List (List ℕ)) → All IsPotential potentials
    → All (λ values. length values ≡ fpgas) potentials
    → All (λ values. Says (potential_said fpgas) values values) potentials
potentials_say fpgas potentials are counts k d lt = potential_says fpgas (get_or potentials k d) (are k d lt)
    (counts k d lt)

-- the kind, by its number and its unit
kind_says : (kind : CertKind) (lengths : List ℕ) (line : ℕ) → HasLengths kind lengths
    → kind_said line (number_of_kind kind) (unit_of_kind kind) ≡ Ok kind
kind_says Share lengths line has = refl
kind_says (Hop unit) lengths line has =
    let some : 0 < unit = has.0 in
    rw (ne_eqb unit 0 (λ e. omega arith), le-ltb most_unit unit has.1) refl

and-false : (b : Bool) → (b && false) ≡ false
and-false true = refl
and-false false = refl

-- potentials that have values stand on a board with FPGAs
count_says : (grows : Bool) (fpgas line : ℕ) (potentials : List (List ℕ))
    → (grows ≡ true → length potentials ≡ 0) → length potentials ≤ most_potentials
    → All IsPotential potentials → All (λ values. length values ≡ fpgas) potentials
    → count_said grows fpgas line (length potentials) ≡ Ok (length potentials)
count_says grows fpgas line [] none few are counts = rw (and-false (grows || nat_eq fpgas 0)) refl
count_says true fpgas line (values ∷ potentials) none few are counts = absurd (omega (arith, none refl))
count_says false fpgas line (values ∷ potentials) none few are counts =
    let first = All-head IsPotential values potentials are in
    let count : length values ≡ fpgas = All-head (λ vs. length vs ≡ fpgas) values potentials counts in
    rw (
      le-ltb most_potentials (length (values ∷ potentials)) few,
      ne_eqb fpgas 0 (λ e. omega (arith, first.some, count)),
    ) refl

-- the version
grows_says : (grows : Bool) (line : ℕ) → grows_said line (version_of grows) ≡ Ok grows
grows_says true line = refl
grows_says false line = refl

version_fits : (grows : Bool) → version_of grows ≤ most_potential_value
version_fits true = omega arith
version_fits false = omega arith

-- the header
kind_fits : (kind : CertKind) → number_of_kind kind ≤ most_potential_value
kind_fits Share = omega arith
kind_fits (Hop unit) = omega arith

unit_fits : (kind : CertKind) (lengths : List ℕ) → HasLengths kind lengths
    → unit_of_kind kind ≤ most_potential_value
unit_fits Share lengths has = omega arith
unit_fits (Hop unit) lengths has = omega (arith, has.1)

row_of_four : (a b c d : ℕ) → a ≤ most_potential_value → b ≤ most_potential_value → c ≤ most_potential_value
    → d ≤ most_potential_value → IsRow most_potential_value (a ∷ b ∷ c ∷ d ∷ [])
row_of_four a b c d e f g h =
    let Fit : ℕ → Type 0 = λ n. n ≤ most_potential_value in
    record {
      some = omega arith;
      within = All-cons Fit a (b ∷ c ∷ d ∷ []) e
          (All-cons Fit b (c ∷ d ∷ []) f (All-cons Fit c (d ∷ []) g (All-cons Fit d [] h (All-nil Fit))));
    }

header_says : (board : Board) (cert : Cert) → IsCert cert → IsCertFor board cert
    → Says (header_said board.fpgas) (header_row cert) (record {
      kind = cert.kind;
      grows = cert.grows;
      potentials = length cert.potentials;
    })
header_says board cert is is_for = record {
  is_row = row_of_four (version_of cert.grows) (number_of_kind cert.kind) (unit_of_kind cert.kind)
      (length cert.potentials)
      (version_fits cert.grows) (kind_fits cert.kind) (unit_fits cert.kind cert.lengths is.lengths)
      (omega (arith, is.potential_limit));
  says = λ line. rw (
    grows_says cert.grows line,
    kind_says cert.kind cert.lengths line is.lengths,
    count_says cert.grows board.fpgas line cert.potentials is.grown is.potential_limit is.potentials
        is_for.potentials,
  ) refl;
}

-- ---- the lengths

-- numbers that are all the same
all_same : (unit : ℕ) (lengths : List ℕ) → All (λ l. l ≡ unit) lengths → replicate (length lengths) unit
    ≡ lengths
all_same unit [] are = refl
all_same unit (l ∷ lengths) are =
    ap (λ (ls : List ℕ). unit ∷ ls) (all_same unit lengths (All-tail (λ m. m ≡ unit) l lengths are))
    ∙ ap (λ (m : ℕ). m ∷ lengths) (sym (All-head (λ m. m ≡ unit) l lengths are))

lengths_read : (after : ℕ) (kind : CertKind) (lengths : List ℕ) (n : ℕ) (rest : List ℕ)
    → HasLengths kind lengths
    → lengths_from after kind (length lengths)
    (lines_from most_potential_value n
    (pieces (flat_map number_line (listed_lengths kind lengths) ++ rest)))
    ≡ Ok (lengths, lines_from most_potential_value (n + length (listed_lengths kind lengths)) (pieces rest))
lengths_read after Share lengths n rest has = section_read after (number_said LengthLimit most_length)
    (λ l. l ∷ []) lengths n rest (numbers_say LengthLimit most_length lengths (omega arith) has)
lengths_read after (Hop unit) lengths n rest has =
    let here : n + 0 ≡ n = omega arith in
    rw (here, all_same unit lengths has.2) refl

-- ---- the choices

all_none : (count : ℕ) (choices : List ℕ) → count ≡ 0 → All (λ c. c ≤ count) choices
    → All (λ c. c ≡ 0) choices
all_none count choices none few = All-weaker (λ c. c ≤ count) (λ c. c ≡ 0) (λ c le. omega (arith, le, none))
    choices few

choices_read : (after : ℕ) (grows : Bool) (count : ℕ) (choices : List ℕ) (n : ℕ) → (grows ≡ true → count ≡ 0)
    → count ≤ most_potentials → All (λ c. c ≤ count) choices
    → choices_from after grows count (length choices)
    (lines_from most_potential_value n
    (pieces (flat_map number_line (listed_choices grows choices) ++ [])))
    ≡ Ok (choices, lines_from most_potential_value (n + length (listed_choices grows choices)) (pieces []))
choices_read after true count choices n none few within =
    rw (all_same 0 choices (all_none count choices (none refl) within)) refl
choices_read after false count choices n none few within =
    section_read after (number_said UnknownPotential count) (λ c. c ∷ []) choices n []
    (numbers_say UnknownPotential count choices (omega (arith, few)) within)

-- ---- the whole text

-- five texts one after another, from the first on
five_texts : (a b c d e : List ℕ) → a ++ b ++ c ++ d ++ e ≡ a ++ (b ++ (c ++ (d ++ (e ++ []))))
five_texts a b c d e = rw (
  append-nil e,
  append_assoc (a ++ b ++ c) d e,
  append_assoc (a ++ b) c (d ++ e),
  append_assoc a b (c ++ (d ++ e)),
) refl

lines_read : (board : Board) (cert : Cert) (after : ℕ) → IsCert cert → IsCertFor board cert
    → cert_from after board (lines most_potential_value (cert_text cert)) ≡ Ok cert
lines_read board cert after is is_for =
    let weights : List ℕ = flat_map number_line cert.weights in
    let lengths : List ℕ = flat_map number_line (listed_lengths cert.kind cert.lengths) in
    let potentials : List ℕ = flat_map line_text cert.potentials in
    let choices : List ℕ = flat_map number_line (listed_choices cert.grows cert.choices) in
    let n : ℕ = 2 + length cert.weights in
    let m : ℕ = n + length (listed_lengths cert.kind cert.lengths) in
    rw (
      five_texts (line_text (header_row cert)) weights lengths potentials choices,
      line_read after (header_said board.fpgas) NoHeader (header_row cert) (record {
        kind = cert.kind;
        grows = cert.grows;
        potentials = length cert.potentials;
      }) 1
          (weights ++ (lengths ++ (potentials ++ (choices ++ [])))) (header_says board cert is is_for),
      ← is_for.weights,
      section_read after (number_said WeightLimit most_weight) (λ w. w ∷ []) cert.weights 2
          (lengths ++ (potentials ++ (choices ++ []))) (numbers_say WeightLimit most_weight cert.weights
          (omega arith) is.weights),
      ← is_for.lengths,
      lengths_read after cert.kind cert.lengths n (potentials ++ (choices ++ [])) is.lengths,
      section_read after (potential_said board.fpgas) (λ values. values) cert.potentials m (choices ++ [])
          (potentials_say board.fpgas cert.potentials is.potentials is_for.potentials),
      ← is_for.choices,
      choices_read after cert.grows (length cert.potentials) cert.choices (m + length cert.potentials)
          is.grown is.potential_limit is.choices,
    ) refl

pub text_reads_back : (board : Board) (cert : Cert) → IsCert cert → IsCertFor board cert
    → length (cert_text cert) ≤ 2 ^ 30 → cert_of board (cert_text cert) ≡ Ok cert
text_reads_back board cert is is_for short = rw (le-ltb (2 ^ 30) (length (cert_text cert)) short)
    (lines_read board cert (line_after (cert_text cert)) is is_for)
