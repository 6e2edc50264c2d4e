-- How long a text is.
use Rattle.std.proofs.Common.{◌≡◌, ℕ, ◌+◌, ◌*◌, ◌^◌, ◌<◌, ◌≤◌, List, [], ◌∷◌, ◌++◌, length, sum_by, All, sym, ap, ◌∙◌, arith, length-append}
use Rattle.std.specs.List.{flat_map}
use Rattle.std.proofs.lemmas.List.Elements.{All-nil, All-cons, All-head, All-tail, All-weaker}
use Rattle.std.proofs.lemmas.List.Sums.{sum_by-cons}
use Rattle.std.proofs.lemmas.Fmt.{length-decimal-le_wide}
use Rattle.tdm_lines.specs.Digits.{digits}
use Rattle.tdm_lines.specs.Written.{line_text}
use Rattle.text_writer.specs.Writing.{number_then}
use Rattle.text_writer.proofs.LineParts.{line-next}
use Rattle.tdm_problem.specs.declared.wire.Wire.{Wire}
use Rattle.tdm_problem.specs.Board.{Board, IsBoard, IsWireOf, IsRowBelow}
use Rattle.contest_input.specs.Canonical.{header_row, wire_row, wire_line, board_text}

-- numbers below the limit have so many bytes with the one behind them
module _ (limit per : ℕ) (short : (n : ℕ) → n < limit → length (number_then n 32) ≤ per) where
  length-line : (n : ℕ) (row : List ℕ) → All (λ x. x < limit) (n ∷ row) → length (line_text (n ∷ row))
      ≤ per * length (n ∷ row)
  length-line n [] below =
      let here = short n (All-head (λ x. x < limit) n [] below) in
      omega (arith, here, length-append (digits n) (32 ∷ []), length-append (digits n) (10 ∷ []))
  length-line n (m ∷ row) below =
      let here = short n (All-head (λ x. x < limit) n (m ∷ row) below) in
      let rest = length-line m row (All-tail (λ x. x < limit) n (m ∷ row) below) in
      let whole = ap (λ (text : List ℕ). length text) (sym (line-next n m row))
      ∙ length-append (number_then n 32) (line_text (m ∷ row)) in
      omega (arith, here, rest, whole)

  length-row : (row : List ℕ) → 0 < length row → All (λ x. x < limit) row
      → length (line_text row) ≤ per * length row
  length-row [] some below = absurd (omega arith)
  length-row (n ∷ row) some below = length-line n row below

  length-rows : (rows : List (List ℕ)) → All (IsRowBelow limit) rows → length (flat_map line_text rows)
      ≤ per * sum_by length rows
  length-rows [] all = omega arith
  length-rows (row ∷ rows) all =
      let head = All-head (IsRowBelow limit) row rows all in
      let rest = length-rows rows (All-tail (IsRowBelow limit) row rows all) in
      let total : per * sum_by length (row ∷ rows) ≡ per * (length row + sum_by length rows) =
      ap (λ n. per * n) (sum_by-cons (length {A = ℕ}) row rows) in
      omega (
        arith,
        length-append (line_text row) (flat_map line_text rows),
        length-row row head.some head.below,
        rest,
        total,
      )

four_digits : (n : ℕ) → n < 4096 → length (number_then n 32) ≤ 5
four_digits n below = omega (
  arith,
  length-append (digits n) (32 ∷ []),
  length-decimal-le_wide 4 n (omega arith) (omega arith) (omega arith),
)

seven_digits : (n : ℕ) → n < 2 ^ 20 + 1 → length (number_then n 32) ≤ 8
seven_digits n below = omega (
  arith,
  length-append (digits n) (32 ∷ []),
  length-decimal-le_wide 7 n (omega arith) (omega arith) (omega arith),
)

length-wires : (fpgas : ℕ) (wires : List Wire) → fpgas ≤ 4096 → All (IsWireOf fpgas) wires
    → length (flat_map wire_line wires) ≤ 10 * length wires
length-wires fpgas [] few all = omega arith
length-wires fpgas (wire ∷ wires) few all =
    let head = All-head (IsWireOf fpgas) wire wires all in
    let below : All (λ x. x < 4096) (wire_row wire) =
    All-cons (λ x. x < 4096) wire.a (wire.b ∷ []) (omega (arith, head.a_there))
    (All-cons (λ x. x < 4096) wire.b [] (omega (arith, head.b_there)) (All-nil (λ x. x < 4096))) in
    omega (
      arith,
      length-append (wire_line wire) (flat_map wire_line wires),
      length-line 4096 5 four_digits wire.a (wire.b ∷ []) below,
      length-wires fpgas wires few (All-tail (IsWireOf fpgas) wire wires all),
    )

wider : (limit more : ℕ) (rows : List (List ℕ)) → limit ≤ more → All (IsRowBelow limit) rows
    → All (IsRowBelow more) rows
wider limit more rows le all = All-weaker (IsRowBelow limit) (IsRowBelow more)
    (λ row is. record {
      some = is.some;
      distinct = is.distinct;
      below = All-weaker (λ x. x < limit) (λ x. x < more) (λ x lt. omega (arith, lt, le)) row
          is.below;
    }) rows all

header_below : (board : Board) → IsBoard board → All (λ x. x < 2 ^ 20 + 1) (header_row board)
header_below board is =
    let Few : ℕ → Type 0 = λ x. x < 2 ^ 20 + 1 in
    All-cons Few board.fpgas (length board.wires ∷ length board.nets ∷ length board.groups ∷ [])
    (omega (arith, is.fpga_limit))
    (All-cons Few (length board.wires) (length board.nets ∷ length board.groups ∷ [])
    (omega (arith, is.wire_limit))
    (All-cons Few (length board.nets) (length board.groups ∷ []) (omega (arith, is.net_limit))
    (All-cons Few (length board.groups) [] (omega (arith, is.group_limit)) (All-nil Few))))

pub never_too_long : (board : Board) → IsBoard board → length (board_text board) ≤ 2 ^ 28
never_too_long board is =
    let header : List ℕ = line_text (header_row board) in
    let wires : List ℕ = flat_map wire_line board.wires in
    let nets : List ℕ = flat_map line_text board.nets in
    let groups : List ℕ = flat_map line_text board.groups in
    let whole : length (board_text board) ≡ length header + length wires + length nets + length groups =
    length-append (header ++ wires ++ nets) groups
    ∙ ap (λ n. n + length groups) (length-append (header ++ wires) nets
    ∙ ap (λ n. n + length nets) (length-append header wires)) in
    let header_short : length header ≤ 8 * 4 = length-row (2 ^ 20 + 1) 8 seven_digits (header_row board)
    (omega arith) (header_below board is) in
    let wires_short : length wires ≤ 10 * length board.wires =
    length-wires board.fpgas board.wires is.fpga_limit is.wires in
    let nets_short : length nets ≤ 5 * sum_by length board.nets =
    length-rows 4096 5 four_digits board.nets (wider board.fpgas 4096 board.nets is.fpga_limit is.nets) in
    let groups_short : length groups ≤ 8 * sum_by length board.groups =
    length-rows (2 ^ 20 + 1) 8 seven_digits board.groups
    (wider (length board.nets) (2 ^ 20 + 1) board.groups (omega (arith, is.net_limit)) is.groups) in
    omega (
      arith,
      whole,
      header_short,
      wires_short,
      nets_short,
      groups_short,
      is.wire_limit,
      is.net_total,
      is.group_total,
    )
