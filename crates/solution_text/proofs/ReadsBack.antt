-- What is written reads back.
use Rattle.std.proofs.Common.{◌≡◌, ℕ, suc, ◌+◌, ◌<◌, ◌≤◌, ◌^◌, false, ◌==◌, List, [], ◌∷◌, ◌++◌, length, get_or, All, Ok, refl, ap, ◌∙◌, arith, append_assoc}
use Rattle.std.specs.List.{list_any, flat_map}
use Rattle.std.proofs.lemmas.List.{append-nil}
use Rattle.std.proofs.lemmas.List.Elements.{All-nil, All-cons, All-head, All-tail, All-weaker, All-push}
use Rattle.std.proofs.lemmas.List.Folds.{list_any_none}
use Rattle.std.proofs.lemmas.Bool.{ne_eqb, lt-leb}
use Rattle.tdm_problem.specs.declared.solution.WireUse.{WireUse}
use Rattle.tdm_problem.specs.Board.{Board}
use Rattle.tdm_problem.specs.Routing.{Routing}
use Rattle.tdm_lines.specs.Lines.{Line, pieces, lines_from, lines, line_after}
use Rattle.tdm_lines.specs.Written.{line_text, plain_line, IsRow}
use Rattle.tdm_lines.proofs.WrittenLemmas.{lines_from-line_text}
use Rattle.solution_text.specs.Text.{use_line, net_text, solution_text}
use Rattle.solution_text.specs.Reading.{largest_number, by_wire, uses_from, net_from, nets_from, solution_of}
use Rattle.solution_text.specs.Sayable.{IsSayable}
use Rattle.solution_text.proofs.Sorting.{by_wire-at_rising}
use Rattle.solution_text.proofs.RoleLaws.{whole_is}
use Rattle.solution_text.proofs.Uses.{AreSayable, AreSayable-head, AreSayable-tail, are_sayable, so_few_uses}

-- each use's wire is above those of the earlier uses
Above : List WireUse → List WireUse → Type 0
Above earlier uses = All (λ u. All (λ v. v.wire < u.wire) earlier) uses

-- a use above the earlier uses is new
unused : (earlier : List WireUse) (u : WireUse) → All (λ v. v.wire < u.wire) earlier
    → list_any (λ v. v.wire == u.wire) earlier ≡ false
unused earlier u above =
    list_any_none (λ v. v.wire == u.wire) earlier (All-weaker (λ v. v.wire < u.wire) (λ v. (v.wire == u.wire)
    ≡ false) (λ v lt. ne_eqb v.wire u.wire (λ e. omega arith)) earlier above)

-- the uses behind the first are above it too
above_next : (earlier : List WireUse) (u : WireUse) (uses : List WireUse) → Above earlier uses
    → All (λ v. u.wire < v.wire) uses → Above (earlier ++ u ∷ []) uses
unfolding Above
above_next earlier u uses above low k d lt = All-push (λ v. v.wire < (get_or uses k d).wire) earlier u
    (above k d lt) (low k d lt)

above_head : (earlier : List WireUse) (u : WireUse) (uses : List WireUse) → Above earlier (u ∷ uses)
    → All (λ v. v.wire < u.wire) earlier
unfolding Above
above_head earlier u uses above = All-head (λ w. All (λ v. v.wire < w.wire) earlier) u uses above

above_tail : (earlier : List WireUse) (u : WireUse) (uses : List WireUse) → Above earlier (u ∷ uses)
    → Above earlier uses
unfolding Above
above_tail earlier u uses above = All-tail (λ w. All (λ v. v.wire < w.wire) earlier) u uses above

none_above : (uses : List WireUse) → Above [] uses
unfolding Above
none_above uses k d lt i e below = absurd (omega arith)

module _ (wires after : ℕ) (few : wires ≤ 65536) where
  -- the row of a use's line
  use_row : (u : WireUse) → u.wire < wires → u.ratio < 2 ^ 32 → IsRow largest_number (u.wire ∷ u.ratio ∷ [])
  use_row u there short = record {
    some = omega arith;
    within = All-cons (λ n. n ≤ largest_number) u.wire (u.ratio ∷ []) (omega arith)
        (All-cons (λ n. n ≤ largest_number) u.ratio [] (omega arith) (All-nil (λ n. n ≤ largest_number)));
  }

  -- one line of a use is read as the use
  use_read : (earlier : List WireUse) (count n : ℕ) (u : WireUse) (more : List Line) → u.wire < wires
      → list_any (λ v. v.wire == u.wire) earlier ≡ false
      → uses_from wires after earlier (suc count) (plain_line n (u.wire ∷ u.ratio ∷ []) ∷ more)
      ≡ uses_from wires after (earlier ++ u ∷ []) count more
  use_read earlier count n u more there new = rw (lt-leb wires u.wire there, new) refl

  -- the lines of uses are read as the uses
  uses_read : (earlier uses : List WireUse) (n : ℕ) (rest : List ℕ) → AreSayable wires uses
      → Above earlier uses
      → uses_from wires after earlier (length uses)
      (lines_from largest_number n (pieces (flat_map use_line uses ++ rest)))
      ≡ Ok (by_wire (earlier ++ uses), lines_from largest_number (n + length uses) (pieces rest))
  uses_read earlier [] n rest are above =
      let here : n + 0 ≡ n = omega arith in
      rw (append-nil earlier, here) refl
  uses_read earlier (u ∷ uses) n rest are above =
      let head = AreSayable-head wires u uses are in
      let others : List ℕ = flat_map use_line uses ++ rest in
      let line = lines_from-line_text largest_number (omega arith) n (u.wire ∷ u.ratio ∷ []) others
      (use_row u head.0 head.1) in
      let last : n + 1 + length uses ≡ n + suc (length uses) = omega arith in
      ap (λ (text : List ℕ). uses_from wires after earlier (suc (length uses))
      (lines_from largest_number n (pieces text)))
      (append_assoc (use_line u) (flat_map use_line uses) rest)
      ∙ ap (λ (ls : List Line). uses_from wires after earlier (suc (length uses)) ls) line
      ∙ use_read earlier (length uses) n u (lines_from largest_number (n + 1) (pieces others)) head.0
      (unused earlier u (above_head earlier u uses above))
      ∙ uses_read (earlier ++ u ∷ []) uses (n + 1) rest (AreSayable-tail wires u uses are)
      (above_next earlier u uses (above_tail earlier u uses above) are.rising.0)
      ∙ rw (append_assoc earlier (u ∷ []) uses, last) refl

  -- the row of a count line
  count_row : (uses : List WireUse) → AreSayable wires uses → IsRow largest_number (length uses ∷ [])
  count_row uses are =
      let count : length uses ≤ wires = so_few_uses wires uses are in
      record {
        some = omega arith;
        within = All-cons (λ n. n ≤ largest_number) (length uses) [] (omega arith)
            (All-nil (λ n. n ≤ largest_number));
      }

  -- the lines of a net are read as its uses
  net_read : (uses : List WireUse) (n : ℕ) (rest : List ℕ) → AreSayable wires uses
      → net_from wires after (lines_from largest_number n (pieces (net_text uses ++ rest))) ≡ Ok (
        uses,
        lines_from largest_number (n + 1 + length uses) (pieces rest),
      )
  net_read uses n rest are =
      let others : List ℕ = flat_map use_line uses ++ rest in
      let left : List Line = lines_from largest_number (n + 1 + length uses) (pieces rest) in
      let line = lines_from-line_text largest_number (omega arith) n (length uses ∷ []) others
      (count_row uses are) in
      ap (λ (text : List ℕ). net_from wires after (lines_from largest_number n (pieces text)))
      (append_assoc (line_text (length uses ∷ [])) (flat_map use_line uses) rest)
      ∙ ap (λ (ls : List Line). net_from wires after ls) line
      ∙ uses_read [] uses (n + 1) rest are (none_above uses)
      ∙ ap (λ (us : List WireUse). Ok (us, left)) (by_wire-at_rising uses are.rising)

  -- the lines of all nets are read as the nets
  nets_read : (routing : Routing) (n : ℕ) → All (AreSayable wires) routing
      → nets_from wires after (length routing) (lines_from largest_number n (pieces (solution_text routing)))
      ≡ Ok routing
  nets_read [] n all = refl
  nets_read (uses ∷ routing) n all =
      rw (
        net_read uses n (solution_text routing) (All-head (AreSayable wires) uses routing all),
        nets_read routing (n + 1 + length uses) (All-tail (AreSayable wires) uses routing all),
      ) refl

pub text_reads_back : (board : Board) (routing : Routing) → IsSayable board routing
    → length (solution_text routing) ≤ 2 ^ 30 → solution_of board (solution_text routing) ≡ Ok routing
text_reads_back board routing is short =
    whole_is board (solution_text routing) (length board.wires) (line_after (solution_text routing))
    (length routing) (lines largest_number (solution_text routing)) short refl refl is.is_for.nets refl
    ∙ nets_read (length board.wires) (line_after (solution_text routing)) is.limits.wire_limit routing 1
    (are_sayable board routing is)
