-- What is written reads back.
use Rattle.std.proofs.Common.{◌≡◌, ◌≢◌, ℕ, suc, ◌+◌, ◌<◌, ◌≤◌, ◌^◌, not, leb, ◌==◌, List, [], ◌∷◌, ◌++◌, length, get_or, filter, sum_by, All, Option, None, Result, Ok, refl, ap, ◌∙◌, arith, append_assoc}
use Rattle.std.specs.Prelude.{AllPairs, Bool, true, false}
use Rattle.std.specs.List.{list_any, flat_map}
use Rattle.std.proofs.lemmas.List.{append-nil}
use Rattle.std.proofs.lemmas.List.Elements.{All-nil, All-cons, All-head, All-tail, All-weaker}
use Rattle.std.proofs.lemmas.List.Folds.{list_any_none}
use Rattle.std.proofs.lemmas.List.Sums.{sum_by-cons}
use Rattle.std.proofs.lemmas.Bool.{ne_eqb, lt-leb, le-ltb}
use Rattle.tdm_lines.specs.Lines.{Line, pieces, lines_from, lines, line_after}
use Rattle.tdm_lines.specs.Written.{line_text, plain_line, IsRow}
use Rattle.tdm_lines.proofs.WrittenLemmas.{lines_from-line_text}
use Rattle.tdm_problem.specs.declared.wire.Wire.{Wire}
use Rattle.tdm_problem.specs.Board.{Board, IsBoard, IsWireOf, IsRowBelow, without_repeats}
use Rattle.tdm_problem.specs.Limits.{most_fpgas, most_wires, most_nets, most_groups, most_listed_fpgas, most_listed_nets}
use Rattle.contest_input.specs.Kinds.{BoardRefusal}
use Rattle.contest_input.specs.declared.kind.BoardKind.{BoardKind}
use Rattle.contest_input.specs.Faults.{sizes_of, wire_of, wire_fault, net_fault, group_fault}
use Rattle.contest_input.specs.BoardText.{largest_number, unless, board_of_lines, board_of}
use Rattle.contest_input.specs.Canonical.{header_row, wire_row, wire_line, board_text}
use Rattle.contest_input.specs.Roles.{in_section, in_wires, in_nets, in_groups, at_end}
use Rattle.contest_input.proofs.WholeText.{of_header, bare, by_sections}
use Rattle.contest_input.proofs.RoleLaws.{section-none, section-take}
use Rattle.contest_input.proofs.Size.{never_too_long}

-- ---- different numbers have no repeats

all_kept : (p : ℕ → Bool) (xs : List ℕ) → All (λ x. p x ≡ true) xs → filter p xs ≡ xs
all_kept p [] passes = refl
all_kept p (x ∷ xs) passes =
    rw (All-head (λ y. p y ≡ true) x xs passes, all_kept p xs (All-tail (λ y. p y ≡ true) x xs passes)) refl

distinct_same : (xs : List ℕ) → AllPairs (λ x y. x ≢ y) xs → without_repeats xs ≡ xs
distinct_same [] pairs = refl
distinct_same (x ∷ xs) pairs =
    let later : AllPairs (λ x y. x ≢ y) xs = λ i j d before there. pairs (suc i) (suc j) d (omega arith)
    (omega arith) in
    let others : All (λ y. not (x == y) ≡ true) xs =
    λ k d there. ap not (ne_eqb x (get_or xs k d) (pairs 0 (suc k) d (omega arith) (omega arith))) in
    ap (λ (ys : List ℕ). x ∷ filter (λ y. not (x == y)) ys) (distinct_same xs later)
    ∙ ap (λ (ys : List ℕ). x ∷ ys) (all_kept (λ y. not (x == y)) xs others)

-- ---- a section

-- the line of a thing says the thing, and has no fault where this and all earlier lines list no more numbers
-- than they may
record IsSaid {R : Type 0} (fault : ℕ → List ℕ → Option BoardKind) (row : List ℕ → R) (numbers : R
    → List ℕ) (most : ℕ) (x : R) : Type 0 where
  is_row : IsRow largest_number (numbers x)
  says : row (numbers x) ≡ x
  clean : (listed : ℕ) → listed ≤ most → fault listed (numbers x) ≡ None

module _ {R : Type 0} (fault : ℕ → List ℕ → Option BoardKind) (row : List ℕ → R) (next : List R → List Line
    → Result Board BoardRefusal) (end : ℕ) (numbers : R → List ℕ) (most : ℕ) where
  section_read : (xs : List R) (listed n : ℕ) (rows : List R) (rest : List ℕ)
      → All (IsSaid fault row numbers most) xs → listed + sum_by (λ x. length (numbers x)) xs ≤ most
      → in_section fault row next end (length xs) listed rows
      (lines_from largest_number n (pieces (flat_map (λ x. line_text (numbers x)) xs ++ rest)))
      ≡ next (rows ++ xs) (lines_from largest_number (n + length xs) (pieces rest))
  section_read [] listed n rows rest all within =
      let here : n + 0 ≡ n = omega arith in
      section-none fault row next end listed rows (lines_from largest_number n (pieces rest))
      ∙ rw (append-nil rows, here) refl
  section_read (x ∷ xs) listed n rows rest all within =
      let head = All-head (IsSaid fault row numbers most) x xs all in
      let texts : List ℕ = flat_map (λ y. line_text (numbers y)) xs in
      let more : List Line = lines_from largest_number (n + 1) (pieces (texts ++ rest)) in
      let so_far : ℕ = listed + length (numbers x) in
      let total = sum_by-cons (λ (y : R). length (numbers y)) x xs in
      let few : so_far ≤ most = omega (arith, total, within) in
      let last : n + 1 + length xs ≡ n + suc (length xs) = omega arith in
      ap (λ (text : List ℕ). in_section fault row next end (suc (length xs)) listed rows
      (lines_from largest_number n (pieces text))) (append_assoc (line_text (numbers x)) texts rest)
      ∙ ap (λ (ls : List Line). in_section fault row next end (suc (length xs)) listed rows ls)
      (lines_from-line_text largest_number (omega arith) n (numbers x) (texts ++ rest) head.is_row)
      ∙ section-take fault row next end (length xs) listed rows (plain_line n (numbers x)) more
      (head.clean so_far few)
      ∙ ap (λ (y : R). in_section fault row next end (length xs) so_far (rows ++ y ∷ []) more) head.says
      ∙ section_read xs so_far (n + 1) (rows ++ x ∷ []) rest
      (All-tail (IsSaid fault row numbers most) x xs all) (omega (arith, total, within))
      ∙ rw (append_assoc rows (x ∷ []) xs, last) refl

-- ---- what the lines say

row_of_two : (a b : ℕ) → a ≤ largest_number → b ≤ largest_number → IsRow largest_number (a ∷ b ∷ [])
row_of_two a b first second = record {
  some = omega arith;
  within = All-cons (λ n. n ≤ largest_number) a (b ∷ []) first (All-cons (λ n. n ≤ largest_number) b [] second
      (All-nil (λ n. n ≤ largest_number)));
}

row_of_four : (a b c d : ℕ) → a ≤ largest_number → b ≤ largest_number → c ≤ largest_number
    → d ≤ largest_number → IsRow largest_number (a ∷ b ∷ c ∷ d ∷ [])
row_of_four a b c d first second third fourth = record {
  some = omega arith;
  within = All-cons (λ n. n ≤ largest_number) a (b ∷ c ∷ d ∷ []) first
      (All-cons (λ n. n ≤ largest_number) b (c ∷ d ∷ []) second (row_of_two c d third fourth).within);
}

wire_said : (fpgas most : ℕ) (wire : Wire) → fpgas ≤ most_fpgas → IsWireOf fpgas wire
    → IsSaid (λ _. wire_fault fpgas) wire_of wire_row most wire
wire_said fpgas most wire few is = record {
  is_row = row_of_two wire.a wire.b (omega (arith, is.a_there)) (omega (arith, is.b_there));
  says = refl;
  clean = λ listed le. rw (
    lt-leb fpgas wire.a is.a_there,
    lt-leb fpgas wire.b is.b_there,
    ne_eqb wire.a wire.b is.no_loop,
  ) refl;
}

-- no number of a row is past the limit
none_past : (limit : ℕ) (row : List ℕ) → All (λ x. x < limit) row → list_any (leb limit) row ≡ false
none_past limit row below =
    list_any_none (leb limit) row (All-weaker (λ x. x < limit) (λ x. leb limit x ≡ false)
    (λ x lt. lt-leb limit x lt) row below)

row_of_list : (limit : ℕ) (row : List ℕ) → limit ≤ largest_number → IsRowBelow limit row
    → IsRow largest_number row
row_of_list limit row small is = record {
  some = is.some;
  within = All-weaker (λ x. x < limit) (λ n. n ≤ largest_number) (λ x lt. omega (arith, lt, small)) row
      is.below;
}

net_said : (fpgas : ℕ) (net : List ℕ) → fpgas ≤ most_fpgas → IsRowBelow fpgas net
    → IsSaid (net_fault fpgas) without_repeats (λ row. row) most_listed_fpgas net
net_said fpgas net few is = record {
  is_row = row_of_list fpgas net (omega arith) is;
  says = distinct_same net is.distinct;
  clean = λ listed le. rw (none_past fpgas net is.below, le-ltb most_listed_fpgas listed le) refl;
}

group_said : (nets : ℕ) (group : List ℕ) → nets ≤ most_nets → IsRowBelow nets group
    → IsSaid (group_fault nets) without_repeats (λ row. row) most_listed_nets group
group_said nets group few is = record {
  is_row = row_of_list nets group (omega arith) is;
  says = distinct_same group is.distinct;
  clean = λ listed le. rw (none_past nets group is.below, le-ltb most_listed_nets listed le) refl;
}

-- ---- the whole text

-- four texts one after another, from the first on
four_texts : (a b c d : List ℕ) → a ++ b ++ c ++ d ≡ a ++ (b ++ (c ++ (d ++ [])))
four_texts a b c d = rw (append-nil d, append_assoc (a ++ b) c d, append_assoc a b (c ++ d)) refl

module _ (board : Board) (is : IsBoard board) (end : ℕ) where
  header_clean : of_header (plain_line 1 (header_row board)) ≡ None
  header_clean = rw (
    le-ltb most_fpgas board.fpgas is.fpga_limit,
    le-ltb most_wires (length board.wires) is.wire_limit,
    le-ltb most_nets (length board.nets) is.net_limit,
    le-ltb most_groups (length board.groups) is.group_limit,
  ) refl

  groups_read : (n : ℕ) → in_groups (sizes_of (header_row board)) (record board { groups = [] })
      (length board.groups) 0 end
      (lines_from largest_number n (pieces (flat_map line_text board.groups ++ []))) ≡ Ok board
  groups_read n =
      section_read (group_fault (length board.nets)) without_repeats
      (λ rows. at_end (record board { groups = rows })) end (λ row. row) most_listed_nets
      board.groups 0 n [] [] (All-weaker (IsRowBelow (length board.nets))
      (IsSaid (group_fault (length board.nets)) without_repeats (λ row. row) most_listed_nets)
      (λ group row. group_said (length board.nets) group is.net_limit row) board.groups is.groups)
      (omega (arith, is.group_total))

  nets_read : (n : ℕ) → in_nets (sizes_of (header_row board)) (record board { nets = []; groups = [] })
      (length board.nets) 0 end
      (lines_from largest_number n
      (pieces (flat_map line_text board.nets ++ (flat_map line_text board.groups ++ [])))) ≡ Ok board
  nets_read n =
      section_read (net_fault board.fpgas) without_repeats (λ rows. in_groups (sizes_of (header_row board))
      (record board { nets = rows; groups = [] }) (length board.groups) 0 end) end
      (λ row. row) most_listed_fpgas
      board.nets 0 n [] (flat_map line_text board.groups ++ [])
      (All-weaker (IsRowBelow board.fpgas) (IsSaid (net_fault board.fpgas) without_repeats
      (λ row. row) most_listed_fpgas) (λ net row. net_said board.fpgas net is.fpga_limit row)
      board.nets is.nets) (omega (arith, is.net_total))
      ∙ groups_read (n + length board.nets)

  wires_read : (n : ℕ) → in_wires (sizes_of (header_row board)) (bare board.fpgas) (length board.wires) end
      (lines_from largest_number n
      (pieces (flat_map wire_line board.wires
      ++ (flat_map line_text board.nets ++ (flat_map line_text board.groups ++ []))))) ≡ Ok board
  wires_read n =
      let total : ℕ = sum_by (λ (w : Wire). length (wire_row w)) board.wires in
      section_read (λ _. wire_fault board.fpgas) wire_of (λ rows. in_nets (sizes_of (header_row board))
      (record (bare board.fpgas) { wires = rows }) (length board.nets) 0 end) end wire_row total
      board.wires 0 n [] (flat_map line_text board.nets ++ (flat_map line_text board.groups ++ []))
      (All-weaker (IsWireOf board.fpgas) (IsSaid (λ _. wire_fault board.fpgas) wire_of wire_row total)
      (λ wire joins. wire_said board.fpgas total wire is.fpga_limit joins) board.wires is.wires)
      (omega arith)
      ∙ nets_read (n + length board.wires)

  lines_read : board_of_lines end (lines largest_number (board_text board)) ≡ Ok board
  lines_read =
      let row : List ℕ = header_row board in
      let rest : List ℕ = flat_map wire_line board.wires
      ++ (flat_map line_text board.nets ++ (flat_map line_text board.groups ++ [])) in
      let below : List Line = lines_from largest_number 2 (pieces rest) in
      let is_row : IsRow largest_number row = row_of_four board.fpgas (length board.wires) (length board.nets)
      (length board.groups) (omega (arith, is.fpga_limit)) (omega (arith, is.wire_limit))
      (omega (arith, is.net_limit)) (omega (arith, is.group_limit)) in
      ap (λ (text : List ℕ). board_of_lines end (lines largest_number text))
      (four_texts (line_text row) (flat_map wire_line board.wires) (flat_map line_text board.nets)
      (flat_map line_text board.groups))
      ∙ ap (λ (ls : List Line). board_of_lines end ls)
      (lines_from-line_text largest_number (omega arith) 1 row rest is_row)
      ∙ by_sections end (plain_line 1 row) below
      ∙ ap (λ (refusal : Option BoardRefusal). unless refusal (in_wires (sizes_of row) (bare board.fpgas)
      (length board.wires) end below)) header_clean
      ∙ wires_read 2

pub text_reads_back : (board : Board) → IsBoard board → board_of (board_text board) ≡ Ok board
text_reads_back board is = rw (le-ltb (2 ^ 28) (length (board_text board)) (never_too_long board is))
    (lines_read board is (line_after (board_text board)))
