-- How long a text is.
use Rattle.std.proofs.Common.{ℕ, ◌+◌, ◌*◌, ◌^◌, ◌<◌, ◌≤◌, List, [], ◌∷◌, ◌++◌, length, sum_by, All, arith, length-append}
use Rattle.std.specs.List.{flat_map}
use Rattle.std.proofs.lemmas.List.Elements.{All-head, All-tail}
use Rattle.std.proofs.lemmas.List.Sums.{sum_by-cons}
use Rattle.std.proofs.lemmas.Fmt.{length-decimal-le_wide}
use Rattle.tdm_problem.specs.declared.solution.WireUse.{WireUse}
use Rattle.tdm_problem.specs.Limits.{most_nets}
use Rattle.tdm_problem.specs.Board.{Board}
use Rattle.tdm_problem.specs.Routing.{Routing}
use Rattle.tdm_lines.specs.Digits.{digits}
use Rattle.tdm_lines.specs.Written.{line_text}
use Rattle.solution_text.specs.Text.{use_line, net_text, solution_text}
use Rattle.solution_text.specs.Sayable.{IsSayable}
use Rattle.solution_text.proofs.Uses.{AreSayable, AreSayable-head, AreSayable-tail, are_sayable, so_few_uses}

module _ (wires : ℕ) (few : wires ≤ 65536) where
  -- a wire's number has five digits at most, and a ratio ten
  length-use_line : (u : WireUse) → u.wire < wires → u.ratio < 2 ^ 32 → length (use_line u) ≤ 17
  length-use_line u there short =
      let five : length (digits u.wire) ≤ 5 = length-decimal-le_wide 5 u.wire (omega arith) (omega arith)
      (omega arith) in
      let ten : length (digits u.ratio) ≤ 10 = length-decimal-le_wide 10 u.ratio (omega arith) (omega arith)
      (omega arith) in
      omega (
        arith,
        length-append (digits u.wire ++ 32 ∷ digits u.ratio) (10 ∷ []),
        length-append (digits u.wire) (32 ∷ digits u.ratio),
      )

  length-use_lines : (uses : List WireUse) → AreSayable wires uses → length (flat_map use_line uses)
      ≤ 17 * length uses
  length-use_lines [] are = omega arith
  length-use_lines (u ∷ uses) are =
      let head = AreSayable-head wires u uses are in
      omega (
        arith,
        length-append (use_line u) (flat_map use_line uses),
        length-use_line u head.0 head.1,
        length-use_lines uses (AreSayable-tail wires u uses are),
      )

  length-net_text : (uses : List WireUse) → AreSayable wires uses → length (net_text uses) ≤ 17 * length uses
      + 6
  length-net_text uses are =
      let count : length uses ≤ wires = so_few_uses wires uses are in
      let five : length (digits (length uses)) ≤ 5 = length-decimal-le_wide 5 (length uses) (omega arith)
      (omega arith) (omega arith) in
      omega (
        arith,
        length-append (line_text (length uses ∷ [])) (flat_map use_line uses),
        length-append (digits (length uses)) (10 ∷ []),
        length-use_lines uses are,
      )

  length-nets : (routing : Routing) → All (AreSayable wires) routing → length (solution_text routing)
      ≤ 17 * sum_by length routing + 6 * length routing
  length-nets [] all = omega arith
  length-nets (uses ∷ routing) all =
      omega (
        arith,
        length-append (net_text uses) (solution_text routing),
        length-net_text uses (All-head (AreSayable wires) uses routing all),
        length-nets routing (All-tail (AreSayable wires) uses routing all),
        sum_by-cons (length {A = WireUse}) uses routing,
      )

pub length-solution_text : (board : Board) (routing : Routing) → IsSayable board routing
    → length (solution_text routing) ≤ 17 * sum_by length routing + 6 * length routing
length-solution_text board routing is = length-nets (length board.wires) (is.limits.wire_limit) routing
    (are_sayable board routing is)

pub never_too_long : (board : Board) (routing : Routing) → IsSayable board routing
    → sum_by length routing ≤ 2 ^ 25 → length (solution_text routing) ≤ 2 ^ 30
never_too_long board routing is few =
    let nets : length routing ≤ most_nets = is.rising.net_limit in
    omega (arith, length-solution_text board routing is)
