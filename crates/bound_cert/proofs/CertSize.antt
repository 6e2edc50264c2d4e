-- How long a certificate's text is.
use Rattle.std.proofs.Common.{ℕ, Bool, true, false, ◌≡◌, ◌+◌, ◌*◌, ◌^◌, ◌<◌, ◌≤◌, List, [], ◌∷◌, ◌++◌, length, sum_by, All, sym, ap, ◌∙◌, arith, length-append}
use Rattle.std.specs.List.{flat_map}
use Rattle.std.proofs.lemmas.List.Elements.{All-head, All-tail, All-weaker}
use Rattle.std.proofs.lemmas.List.Sums.{sum_by-cons}
use Rattle.std.proofs.lemmas.Fmt.{length-decimal-le_wide}
use Rattle.tdm_problem.specs.Board.{Board, IsBoard}
use Rattle.tdm_problem.specs.Limits.{most_weight}
use Rattle.tdm_lines.specs.Digits.{digits}
use Rattle.tdm_lines.specs.Written.{line_text}
use Rattle.text_writer.specs.Writing.{number_then}
use Rattle.text_writer.proofs.LineParts.{line-next}
use Rattle.bound_cert.specs.declared.certificate.CertKind.{CertKind}
use Rattle.bound_cert.specs.declared.certificate.CertKind.TheVariants.{Share, Hop}
use Rattle.bound_cert.specs.Limits.{most_length, most_unit, most_potentials, most_potential_value}
use Rattle.bound_cert.specs.Certificate.{Cert, IsCert, IsCertFor, IsPotential, HasLengths}
use Rattle.bound_cert.specs.CertText.{header_row, listed_lengths, listed_choices, version_of, number_of_kind, unit_of_kind, number_line, cert_text}

-- ---- lines of one number

-- a number of so few digits, and the byte behind it
length-number_then : (most n end : ℕ) → length (digits n) ≤ most → length (number_then n end) ≤ most + 1
length-number_then most n end short = omega (arith, length-append (digits n) (end ∷ []))

-- each of the numbers has so few digits
length-column : (most : ℕ) (numbers : List ℕ) → All (λ n. length (digits n) ≤ most) numbers
    → length (flat_map number_line numbers) ≤ most * length numbers + length numbers
length-column most [] short = omega arith
length-column most (n ∷ numbers) short =
    let first : length (number_line n) ≤ most + 1 =
    length-number_then most n 10 (All-head (λ m. length (digits m) ≤ most) n numbers short) in
    omega (
      arith,
      length-append (number_line n) (flat_map number_line numbers),
      first,
      length-column most numbers (All-tail (λ m. length (digits m) ≤ most) n numbers short),
    )

length-weights : (weights : List ℕ) → All (λ w. w ≤ most_weight) weights
    → length (flat_map number_line weights) ≤ 14 * length weights
length-weights weights within =
    let short : All (λ w. length (digits w) ≤ 13) weights =
    All-weaker (λ w. w ≤ most_weight) (λ w. length (digits w) ≤ 13)
    (λ w le. length-decimal-le_wide 13 w (omega arith) (omega arith) (omega arith)) weights within in
    omega (arith, length-column 13 weights short)

length-lengths : (kind : CertKind) (lengths : List ℕ) → HasLengths kind lengths
    → length (flat_map number_line (listed_lengths kind lengths)) ≤ 16 * length lengths
length-lengths Share lengths within =
    let short : All (λ l. length (digits l) ≤ 15) lengths =
    All-weaker (λ l. l ≤ most_length) (λ l. length (digits l) ≤ 15)
    (λ l le. length-decimal-le_wide 15 l (omega arith) (omega arith) (omega arith)) lengths within in
    omega (arith, length-column 15 lengths short)
length-lengths (Hop unit) lengths within = omega arith

length-choices : (grows : Bool) (count : ℕ) (choices : List ℕ) → count ≤ most_potentials
    → All (λ c. c ≤ count) choices → length (flat_map number_line (listed_choices grows choices))
    ≤ 5 * length choices
length-choices true count choices few within = omega arith
length-choices false count choices few within =
    let short : All (λ c. length (digits c) ≤ 4) choices =
    All-weaker (λ c. c ≤ count) (λ c. length (digits c) ≤ 4) (λ c le. length-decimal-le_wide 4 c (omega arith)
    (omega (arith, few)) (omega (arith, few))) choices within in
    omega (arith, length-column 4 choices short)

-- ---- lines of several numbers

-- each value has at most 19 digits
length-values : (values : List ℕ) → 0 < length values → All (λ v. v ≤ most_potential_value) values
    → length (line_text values) ≤ 20 * length values
length-values [] some within = omega arith
length-values (v ∷ []) some within =
    let below : v ≤ most_potential_value = All-head (λ w. w ≤ most_potential_value) v [] within in
    length-number_then 19 v 10 (length-decimal-le_wide 19 v (omega arith) (omega arith) (omega arith))
length-values (v ∷ w ∷ values) some within =
    let below : v ≤ most_potential_value = All-head (λ u. u ≤ most_potential_value) v (w ∷ values) within in
    let first : length (number_then v 32) ≤ 20 =
    length-number_then 19 v 32 (length-decimal-le_wide 19 v (omega arith) (omega arith) (omega arith)) in
    let others : length (line_text (w ∷ values)) ≤ 20 * length (w ∷ values) =
    length-values (w ∷ values) (omega arith) (All-tail (λ u. u ≤ most_potential_value) v
    (w ∷ values) within) in
    let whole : length (number_then v 32) + length (line_text (w ∷ values))
    ≡ length (line_text (v ∷ w ∷ values)) =
    sym (length-append (number_then v 32) (line_text (w ∷ values)))
    ∙ ap (λ (text : List ℕ). length text) (line-next v w values) in
    omega (arith, first, others, whole)

length-potentials : (potentials : List (List ℕ)) → All IsPotential potentials
    → length (flat_map line_text potentials) ≤ 20 * sum_by length potentials
length-potentials [] are = omega arith
length-potentials (values ∷ potentials) are =
    let first = All-head IsPotential values potentials are in
    omega (
      arith,
      length-append (line_text values) (flat_map line_text potentials),
      length-values values first.some first.values,
      length-potentials potentials (All-tail IsPotential values potentials are),
      sum_by-cons (length {A = ℕ}) values potentials,
    )

-- ---- the header

digits-version : (grows : Bool) → length (digits (version_of grows)) ≤ 1
digits-version true = length-decimal-le_wide 1 4 (omega arith) (omega arith) (omega arith)
digits-version false = length-decimal-le_wide 1 1 (omega arith) (omega arith) (omega arith)

digits-kind : (kind : CertKind) → length (digits (number_of_kind kind)) ≤ 1
digits-kind Share = length-decimal-le_wide 1 1 (omega arith) (omega arith) (omega arith)
digits-kind (Hop unit) = length-decimal-le_wide 1 2 (omega arith) (omega arith) (omega arith)

digits-unit : (kind : CertKind) (lengths : List ℕ) → HasLengths kind lengths
    → length (digits (unit_of_kind kind)) ≤ 7
digits-unit Share lengths has = length-decimal-le_wide 7 0 (omega arith) (omega arith) (omega arith)
digits-unit (Hop unit) lengths has = let most : unit ≤ most_unit = has.1 in
    length-decimal-le_wide 7 unit (omega arith) (omega arith) (omega arith)

length-header : (version kind unit count : ℕ) → length (digits version) ≤ 1 → length (digits kind) ≤ 1
    → length (digits unit) ≤ 7 → length (digits count) ≤ 4
    → length (line_text (version ∷ kind ∷ unit ∷ count ∷ [])) ≤ 17
length-header version kind unit count v a b c =
    omega (
      arith,
      v,
      a,
      b,
      c,
      length-append (digits version ++ 32 ∷ (digits kind ++ 32 ∷ (digits unit ++ 32 ∷ digits count)))
          (10 ∷ []),
      length-append (digits version) (32 ∷ (digits kind ++ 32 ∷ (digits unit ++ 32 ∷ digits count))),
      length-append (digits kind) (32 ∷ (digits unit ++ 32 ∷ digits count)),
      length-append (digits unit) (32 ∷ digits count),
    )

-- ---- the whole text

length-five : (a b c d e : List ℕ) → length (a ++ b ++ c ++ d ++ e) ≡ length a + length b + length c
    + length d + length e
length-five a b c d e = omega (
  arith,
  length-append (a ++ b ++ c ++ d) e,
  length-append (a ++ b ++ c) d,
  length-append (a ++ b) c,
  length-append a b,
)

pub length-cert_text : (cert : Cert) → IsCert cert
    → length (cert_text cert) ≤ 17 + 14 * length cert.weights + 16 * length cert.lengths
    + 20 * sum_by length cert.potentials + 5 * length cert.choices
length-cert_text cert is =
    let count : length (digits (length cert.potentials)) ≤ 4 =
    length-decimal-le_wide 4 (length cert.potentials) (omega arith) (omega (arith, is.potential_limit))
    (omega (arith, is.potential_limit)) in
    omega (
      arith,
      length-five (line_text (header_row cert)) (flat_map number_line cert.weights)
          (flat_map number_line (listed_lengths cert.kind cert.lengths)) (flat_map line_text cert.potentials)
          (flat_map number_line (listed_choices cert.grows cert.choices)),
      length-header (version_of cert.grows) (number_of_kind cert.kind) (unit_of_kind cert.kind)
          (length cert.potentials) (digits-version cert.grows) (digits-kind cert.kind)
          (digits-unit cert.kind cert.lengths is.lengths) count,
      length-weights cert.weights is.weights,
      length-lengths cert.kind cert.lengths is.lengths,
      length-potentials cert.potentials is.potentials,
      length-choices cert.grows (length cert.potentials) cert.choices is.potential_limit is.choices,
    )

pub never_too_long : (board : Board) (cert : Cert) → IsBoard board → IsCert cert → IsCertFor board cert
    → sum_by length cert.potentials ≤ 2 ^ 24 → length (cert_text cert) ≤ 2 ^ 30
never_too_long board cert limits is is_for few =
    omega (
      arith,
      length-cert_text cert is,
      limits.wire_limit,
      limits.net_limit,
      limits.group_limit,
      is_for.weights,
      is_for.lengths,
      is_for.choices,
      few,
    )
