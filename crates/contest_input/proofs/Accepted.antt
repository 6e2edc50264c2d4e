-- A text that is not refused describes a board that keeps to the limits.
use Rattle.std.proofs.Common.{◌≡◌, ℕ, zero, suc, ◌+◌, ◌<◌, ◌≤◌, cond, leb, Bool, true, false, ◌||◌, List, [], ◌∷◌, length, take, drop, map, Option, None, Some, Result, Ok, Err, refl, sym, subst, ◌∙◌, arith}
use Rattle.std.specs.Prelude.{sum_by, All}
use Rattle.std.specs.List.{list_any}
use Rattle.std.proofs.lemmas.Bool.{ltb-false, leb-false, eqb-false}
use Rattle.std.proofs.lemmas.List.{length-map, length-take-le}
use Rattle.std.proofs.lemmas.List.Elements.{All-nil, All-cons}
use Rattle.std.proofs.lemmas.List.Sums.{sum_by-cons}
use Rattle.tdm_lines.specs.declared.line.TokenFault.{TokenFault}
use Rattle.tdm_lines.specs.Lines.{Line, lines, line_after, pieces}
use Rattle.tdm_problem.specs.Board.{Board, IsBoard, IsWireOf, IsRowBelow}
use Rattle.tdm_problem.specs.Limits.{most_fpgas, most_wires, most_nets, most_groups, most_listed_fpgas, most_listed_nets}
use Rattle.tdm_problem.proofs.Repeats.{IsRowBelow-without_repeats, length-without_repeats}
use Rattle.contest_input.specs.Kinds.{BoardRefusal}
use Rattle.contest_input.specs.declared.header.Sizes.{Sizes}
use Rattle.contest_input.specs.declared.kind.BoardKind.{BoardKind}
use Rattle.contest_input.specs.Faults.{tokens_first, sizes_of, wire_of, wire_fault, net_fault, group_fault}
use Rattle.contest_input.specs.BoardText.{largest_number, refused_at, judged, first_refusal, extra_refusal, wire_row, listed_row, unless, board_of_lines, board_of}
use Rattle.contest_input.specs.Roles.{or_else, stop, in_wires}
use Rattle.contest_input.proofs.LineLemmas.{HaveNumbers, HaveNumbers-lines_from}
use Rattle.contest_input.proofs.WholeText.{of_header, bare, stop-section, by_sections}

-- ---- where there is no refusal, no part of the judgement is one

if-none : (b : Bool) (kind : BoardKind) (rest : Option BoardKind) → cond b (Some kind) rest ≡ None
    → (b ≡ false) × (rest ≡ None)
if-none true kind rest none = absurd (cc)
if-none false kind rest none = (refl, none)

or-none : (a b : Bool) → (a || b) ≡ false → (a ≡ false) × (b ≡ false)
or-none true b none = absurd (cc)
or-none false b none = (refl, none)

tokens-none : (fault : Option TokenFault) (kind : Option BoardKind) → tokens_first fault kind ≡ None
    → (fault ≡ None) × (kind ≡ None)
tokens-none None kind none = (refl, none)
tokens-none (Some fault) kind none = absurd (cc)

at-none : (n : ℕ) (kind : Option BoardKind) → refused_at n kind ≡ None → kind ≡ None
at-none n None none = refl
at-none n (Some kind) none = absurd (cc)

first-none : (first : Option BoardRefusal) (later : List (Option BoardRefusal))
    → first_refusal (first ∷ later) ≡ None → (first ≡ None) × (first_refusal later ≡ None)
first-none None later none = (refl, none)
first-none (Some refusal) later none = absurd (cc)

else-none : (first second : Option BoardRefusal) → or_else first second ≡ None → (first ≡ None)
    × (second ≡ None)
else-none None second none = (refl, none)
else-none (Some refusal) second none = absurd (cc)

unless-ok : (why : Option BoardRefusal) (rest : Result Board BoardRefusal) (board : Board)
    → unless why rest ≡ Ok board → (why ≡ None) × (rest ≡ Ok board)
unless-ok None rest board ok = (refl, ok)
unless-ok (Some refusal) rest board ok = absurd (cc)

-- what is said of a line in its place
line-none : (line : Line) (kind : Option BoardKind) → refused_at line.number (tokens_first line.fault kind)
    ≡ None → (line.fault ≡ None) × (kind ≡ None)
line-none line kind none = tokens-none line.fault kind (at-none line.number _ none)

missing-none : (b : Bool) (refusal : BoardRefusal) → cond b (Some refusal) None ≡ None → b ≡ false
missing-none true refusal none = absurd (cc)
missing-none false refusal none = refl

-- a section without a refusal has its lines
section-none : (fault : ℕ → List ℕ → Option BoardKind) (count end : ℕ) (lines : List Line)
    → stop fault end 0 count lines ≡ None → (first_refusal (judged fault 0 (take count lines)) ≡ None)
    × (count ≤ length lines)
section-none fault count end lines none =
    let both = else-none (first_refusal (judged fault 0 (take count lines)))
    _ (sym (stop-section fault end 0 count lines) ∙ none) in
    (both.0, ltb-false (length lines) count (missing-none _ _ both.1))

-- ---- wires

wire-there : (fpgas : ℕ) (numbers : List ℕ) → wire_fault fpgas numbers ≡ None
    → IsWireOf fpgas (wire_of numbers)
wire-there fpgas numbers none =
    let counted = if-none _ _ _ none in
    let there = if-none _ _ _ counted.1 in
    let apart = if-none _ _ _ there.1 in
    let both = or-none _ _ there.0 in
    record {
      a_there = leb-false fpgas _ both.0;
      b_there = leb-false fpgas _ both.1;
      no_loop = eqb-false _ _ apart.0;
    }

wires-there : (fpgas listed : ℕ) (lines : List Line)
    → first_refusal (judged (λ _. wire_fault fpgas) listed lines) ≡ None
    → All (IsWireOf fpgas) (map wire_row lines)
wires-there fpgas listed [] none = All-nil (IsWireOf fpgas)
wires-there fpgas listed (line ∷ later) none =
    let both = first-none _ _ none in
    All-cons (IsWireOf fpgas) (wire_row line) (map wire_row later)
    (wire-there fpgas line.numbers (line-none line _ both.0).1)
    (wires-there fpgas (listed + length line.numbers) later both.1)

-- ---- nets and groups

all-below : (limit : ℕ) (numbers : List ℕ) → list_any (leb limit) numbers ≡ false
    → All (λ x. x < limit) numbers
all-below limit [] none = All-nil (λ x. x < limit)
all-below limit (n ∷ numbers) none =
    let both = or-none (leb limit n) (list_any (leb limit) numbers) none in
    All-cons (λ x. x < limit) n numbers (leb-false limit n both.0) (all-below limit numbers both.1)

-- a judgement of lines that list numbers: each below the limit, and no more than so many
abbrev pub IsListing : (fault : ℕ → List ℕ → Option BoardKind) (limit most : ℕ) → Type 0
IsListing fault limit most = (listed : ℕ) (numbers : List ℕ) → fault listed numbers ≡ None
    → All (λ x. x < limit) numbers × (listed ≤ most)

pub net-listing : (fpgas : ℕ) → IsListing (net_fault fpgas) fpgas most_listed_fpgas
net-listing fpgas listed numbers none =
    let there = if-none _ _ _ none in
    (all-below fpgas numbers there.0, ltb-false most_listed_fpgas listed (if-none _ _ _ there.1).0)

pub group-listing : (nets : ℕ) → IsListing (group_fault nets) nets most_listed_nets
group-listing nets listed numbers none =
    let there = if-none _ _ _ none in
    (all-below nets numbers there.0, ltb-false most_listed_nets listed (if-none _ _ _ there.1).0)

module _ (fault : ℕ → List ℕ → Option BoardKind) (limit most : ℕ) (listing : IsListing fault limit most) where
  rows-there : (listed : ℕ) (lines : List Line) → HaveNumbers lines
      → first_refusal (judged fault listed lines) ≡ None → listed ≤ most
      → All (IsRowBelow limit) (map listed_row lines) × (listed + sum_by length (map listed_row lines) ≤ most)
  rows-there listed [] have none within = (All-nil (IsRowBelow limit), omega arith)
  rows-there listed (line ∷ later) have none within =
      let both = first-none _ _ none in
      let here = line-none line _ both.0 in
      let said = listing (listed + length line.numbers) line.numbers here.1 in
      let rest = rows-there (listed + length line.numbers) later have.1 both.1 said.1 in
      let total = sum_by-cons length (listed_row line) (map listed_row later) in (
        All-cons (IsRowBelow limit) (listed_row line) (map listed_row later)
            (IsRowBelow-without_repeats limit line.numbers (have.0 here.0) said.0) rest.0,
        omega (arith, rest.1, total, length-without_repeats line.numbers),
      )

HaveNumbers-take : (count : ℕ) (lines : List Line) → HaveNumbers lines → HaveNumbers (take count lines)
HaveNumbers-take zero lines have = tt
HaveNumbers-take (suc count) [] have = tt
HaveNumbers-take (suc count) (line ∷ later) have = (have.0, HaveNumbers-take count later have.1)

HaveNumbers-drop : (count : ℕ) (lines : List Line) → HaveNumbers lines → HaveNumbers (drop count lines)
HaveNumbers-drop zero lines have = have
HaveNumbers-drop (suc count) [] have = tt
HaveNumbers-drop (suc count) (line ∷ later) have = HaveNumbers-drop count later have.1

-- ---- the whole text

-- the numbers of the header keep to the limits
record IsWithin (sizes : Sizes) : Type 0 where
  fpgas : sizes.fpgas ≤ most_fpgas
  wires : sizes.wires ≤ most_wires
  nets : sizes.nets ≤ most_nets
  groups : sizes.groups ≤ most_groups

header-within : (header : Line) → of_header header ≡ None → IsWithin (sizes_of header.numbers)
header-within header none =
    let sizes = sizes_of header.numbers in
    let counted = if-none _ _ _ (line-none header _ none).1 in
    let limited = or-none _ _ (if-none _ _ _ counted.1).0 in
    let wires = or-none _ _ limited.1 in
    let others = or-none _ _ wires.1 in
    record {
      fpgas = ltb-false most_fpgas sizes.fpgas limited.0;
      wires = ltb-false most_wires sizes.wires wires.0;
      nets = ltb-false most_nets sizes.nets others.0;
      groups = ltb-false most_groups sizes.groups others.1;
    }

-- a section has as many rows as it has lines
rows-count : {Row : Type 0} (row : Line → Row) (count : ℕ) (lines : List Line) → count ≤ length lines
    → length (map row (take count lines)) ≡ count
rows-count row count lines enough = length-map (take count lines) row ∙ length-take-le count lines enough

ok-equal : (a b : Board) → ◌≡◌ {A = Result Board BoardRefusal} (Ok a) (Ok b) → a ≡ b
ok-equal a b equal = cc

accepted-lines : (end : ℕ) (lines : List Line) (board : Board) → HaveNumbers lines
    → board_of_lines end lines ≡ Ok board → IsBoard board
accepted-lines end [] board have ok = absurd (cc)
accepted-lines end (header ∷ below) board have ok =
    let sizes : Sizes = sizes_of header.numbers in
    let head = unless-ok (of_header header) (in_wires sizes (bare sizes.fpgas) sizes.wires end below) board
    (sym (by_sections end header below) ∙ ok) in
    let within = header-within header head.0 in
    let behind_wires : List Line = drop sizes.wires below in
    let behind_nets : List Line = drop sizes.nets behind_wires in
    let wired = unless-ok (stop (λ _. wire_fault sizes.fpgas) end 0 sizes.wires below) _ board head.1 in
    let netted = unless-ok (stop (net_fault sizes.fpgas) end 0 sizes.nets behind_wires) _ board wired.1 in
    let grouped = unless-ok (stop (group_fault sizes.nets) end 0 sizes.groups behind_nets) _ board netted.1 in
    let ended = unless-ok (first_refusal (map extra_refusal (drop sizes.groups behind_nets))) _ board
    grouped.1 in
    let wires = section-none (λ _. wire_fault sizes.fpgas) sizes.wires end below wired.0 in
    let nets = section-none (net_fault sizes.fpgas) sizes.nets end behind_wires netted.0 in
    let groups = section-none (group_fault sizes.nets) sizes.groups end behind_nets grouped.0 in
    let have_wires = HaveNumbers-drop sizes.wires below have.1 in
    let net_rows = rows-there (net_fault sizes.fpgas) sizes.fpgas most_listed_fpgas (net-listing sizes.fpgas)
    0 (take sizes.nets behind_wires) (HaveNumbers-take sizes.nets behind_wires have_wires) nets.0
    (omega arith) in
    let group_rows = rows-there (group_fault sizes.nets) sizes.nets most_listed_nets
    (group-listing sizes.nets) 0 (take sizes.groups behind_nets)
    (HaveNumbers-take sizes.groups behind_nets (HaveNumbers-drop sizes.nets behind_wires have_wires))
    groups.0 (omega arith) in
    let net_count = rows-count listed_row sizes.nets behind_wires nets.1 in
    subst IsBoard (ok-equal _ _ ended.1) (record {
      fpga_limit = within.fpgas;
      wire_limit = omega (arith, within.wires, rows-count wire_row sizes.wires below wires.1);
      net_limit = omega (arith, within.nets, net_count);
      group_limit = omega (arith, within.groups, rows-count listed_row sizes.groups behind_nets groups.1);
      net_total = omega (arith, net_rows.1);
      group_total = omega (arith, group_rows.1);
      wires = wires-there sizes.fpgas 0 (take sizes.wires below) wires.0;
      nets = net_rows.0;
      groups = subst (λ count. All (IsRowBelow count) (map listed_row (take sizes.groups behind_nets)))
          (sym net_count) group_rows.0;
    })

too-long : (b : Bool) (refusal : BoardRefusal) (rest : Result Board BoardRefusal) (board : Board)
    → cond b (Err refusal) rest ≡ Ok board → rest ≡ Ok board
too-long true refusal rest board ok = absurd (cc)
too-long false refusal rest board ok = ok

-- the board that a text describes keeps to the limits, and all its numbers name something
pub accepted-board : (text : List ℕ) (board : Board) → board_of text ≡ Ok board → IsBoard board
accepted-board text board ok = accepted-lines (line_after text) (lines largest_number text) board
    (HaveNumbers-lines_from largest_number 1 (pieces text)) (too-long _ _ _ board ok)
