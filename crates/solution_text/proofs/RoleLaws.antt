-- What a line makes of what is said.
use Rattle.std.proofs.Common.{◌≡◌, ℕ, zero, suc, ◌+◌, ◌-◌, ◌<◌, List, [], ◌∷◌, ◌++◌, length, take, set, ◌≢◌, ◌≤◌, ◌^◌, All, Option, None, Some, Result, Ok, Err, refl, sym, ap, ◌∙◌, subst, arith}
use Rattle.std.specs.Prelude.{slice_index}
use Rattle.std.proofs.lemmas.Bool.{le-ltb}
use Rattle.std.proofs.lemmas.List.Elements.{All-weaker}
use Rattle.std.proofs.lemmas.List.{append_assoc, append-nil}
use Rattle.tdm_lines.specs.declared.line.TokenFault.{TokenFault}
use Rattle.tdm_lines.specs.Lines.{Line, lines, line_after}
use Rattle.tdm_lines.specs.FirstNumbers.{Firsts, AreFirst}
use Rattle.tdm_lines.specs.SoFar.{ended_line}
use Rattle.tdm_problem.specs.declared.solution.WireUse.{WireUse}
use Rattle.tdm_problem.specs.Board.{Board}
use Rattle.tdm_problem.specs.Routing.{Routing}
use Rattle.solution_text.specs.declared.refusal.SolutionKind.TheVariants.{MissingLine}
use Rattle.solution_text.specs.Kinds.{SolutionRefusal}
use Rattle.tdm_lines.specs.Refusals.{refused, ◌>>=◌}
use Rattle.solution_text.specs.Reading.{largest_number, count_said, use_said, by_wire, uses_from, nets_from, solution_of}
use Rattle.solution_text.specs.Steps.{Marks, with_nets}
use Rattle.solution_text.specs.Roles.{count_of, use_of, from_use}
use Rattle.solution_text.proofs.Marking.{marks_none, marks_push}

-- no net before those that are read
pub with_nets-none : (read : Result Routing SolutionRefusal) → with_nets [] read ≡ read
with_nets-none (Ok rest) = refl
with_nets-none (Err refusal) = refl

-- one more net
with_nets-more : (routing : Routing) (uses : List WireUse) (read : Result Routing SolutionRefusal)
    → with_nets routing (read >>= λ rest. Ok (uses ∷ rest)) ≡ with_nets (routing ++ uses ∷ []) read
with_nets-more routing uses (Ok rest) =
    ap (λ (r : Routing). Ok r) (sym (append_assoc routing (uses ∷ []) rest))
with_nets-more routing uses (Err refusal) = refl

-- the first three numbers tell as much as all
pub count_said-first : (line : ℕ) (numbers : List ℕ) → count_said line (take 3 numbers)
    ≡ count_said line numbers
count_said-first line [] = refl
count_said-first line (a ∷ []) = refl
count_said-first line (a ∷ b ∷ more) = refl

pub use_said-first : (wires : ℕ) (earlier : List WireUse) (line : ℕ) (numbers : List ℕ)
    → use_said wires earlier line (take 3 numbers) ≡ use_said wires earlier line numbers
use_said-first wires earlier line [] = refl
use_said-first wires earlier line (a ∷ []) = refl
use_said-first wires earlier line (a ∷ b ∷ []) = refl
use_said-first wires earlier line (a ∷ b ∷ c ∷ more) = refl

-- a text that is not too long is read net by net
pub whole_is : (board : Board) (text : List ℕ) (wires after nets : ℕ) (ls : List Line) → length text ≤ 2 ^ 30
    → wires ≡ length board.wires → after ≡ line_after text → nets ≡ length board.nets
    → ls ≡ lines largest_number text → solution_of board text ≡ nets_from wires after nets ls
whole_is board text wires after nets ls short a b c d =
    rw (a, b, c, d, le-ltb (2 ^ 30) (length text) short) refl

-- the numbers that are kept are the first three
pub first-three : (kept : Firsts) (numbers : List ℕ) → kept.most ≡ 3 → kept.largest ≡ largest_number
    → AreFirst kept numbers → All (λ n. n ≤ largest_number) numbers → kept.numbers ≡ take 3 numbers
first-three kept numbers most largest first within =
    first (subst (λ (m : ℕ). All (λ n. n ≤ m) numbers) (sym largest) within) ∙ ap (λ k. take k numbers) most

-- before the first use of a net
pub marks-first : (stamps : List ℕ) (uses : List WireUse) (read : ℕ) → All (λ s. s ≤ read) stamps → uses ≡ []
    → Marks stamps (read + 1) uses
marks-first stamps uses read small none =
    rw none (marks_none stamps (read + 1) (All-weaker (λ s. s ≤ read) (λ s. s < read + 1)
    (λ s below. omega arith) stamps small))

-- after one more use
pub marks-more : (stamps : List ℕ) (uses uses' : List WireUse) (used : WireUse) (stamp read : ℕ)
    → Marks stamps (read + 1) uses → used.wire < length stamps → slice_index stamps used.wire ≢ read + 1
    → stamp ≡ read + 1 → uses' ≡ uses ++ used ∷ [] → Marks (set stamps used.wire stamp) (read + 1) uses'
marks-more stamps uses uses' used stamp read marks there unused stamp_is uses_are =
    rw (stamp_is, uses_are) (marks_push stamps (read + 1) uses used marks there unused)

module _ (wires after : ℕ) (routing : Routing) where
  -- a count line
  count-said : (left n : ℕ) (said : Result ℕ SolutionRefusal) (more : List Line)
      → with_nets routing (said >>= (λ count. uses_from wires after [] count more) >>= λ net. nets_from wires
      after left net.1 >>= λ rest. Ok (net.0 ∷ rest))
      ≡ (said >>= λ count. from_use wires after routing [] count left more)
  count-said left n (Ok count) more = refl
  count-said left n (Err refusal) more = refl

  pub count-law : (left n : ℕ) (fault : Option TokenFault) (numbers : List ℕ) (more : List Line)
      → with_nets routing (nets_from wires after left (ended_line n fault numbers ∷ more))
      ≡ (count_of left n fault numbers >>= λ count. from_use wires after routing [] count (left - 1) more)
  count-law zero n None numbers more = refl
  count-law zero n (Some f) numbers more = refl
  count-law (suc left) n None numbers more =
      let one : left ≡ suc left - 1 = omega arith in
      count-said left n (count_said n numbers) more
      ∙ ap (λ k. count_said n numbers >>= λ count. from_use wires after routing [] count k more) one
  count-law (suc left) n (Some f) numbers more = refl

  -- a use line
  use-said : (uses : List WireUse) (count left : ℕ) (said : Result WireUse SolutionRefusal) (more : List Line)
      → with_nets routing (said >>= (λ u. uses_from wires after (uses ++ u ∷ []) count more) >>= λ net.
      nets_from wires after left net.1 >>= λ rest. Ok (net.0 ∷ rest))
      ≡ (said >>= λ u. from_use wires after routing (uses ++ u ∷ []) count left more)
  use-said uses count left (Ok u) more = refl
  use-said uses count left (Err refusal) more = refl

  use-suc : (uses : List WireUse) (count left n : ℕ) (fault : Option TokenFault) (numbers : List ℕ)
      (more : List Line)
      → from_use wires after routing uses (suc count) left (ended_line n fault numbers ∷ more)
      ≡ (use_of wires uses n fault numbers >>= λ u. from_use wires after routing (uses ++ u ∷ []) count
      left more)
  use-suc uses count left n None numbers more = use-said uses count left (use_said wires uses n numbers) more
  use-suc uses count left n (Some f) numbers more = refl

  pub use-law : (uses : List WireUse) (count left n : ℕ) (fault : Option TokenFault) (numbers : List ℕ)
      (more : List Line) → 0 < count
      → from_use wires after routing uses count left (ended_line n fault numbers ∷ more)
      ≡ (use_of wires uses n fault numbers >>= λ u. from_use wires after routing (uses ++ u ∷ [])
      (count - 1) left more)
  use-law uses count left n fault numbers more some =
      let one : count ≡ suc (count - 1) = omega arith in
      ap (λ k. from_use wires after routing uses k left (ended_line n fault numbers ∷ more)) one
      ∙ use-suc uses (count - 1) left n fault numbers more

  -- the net in progress has all its uses
  pub net-law : (uses : List WireUse) (left : ℕ) (more : List Line)
      → from_use wires after routing uses 0 left more ≡ with_nets (routing ++ by_wire uses ∷ [])
      (nets_from wires after left more)
  net-law uses left more = with_nets-more routing (by_wire uses) (nets_from wires after left more)

  -- the text ends too early, or in its place
  pub end-use : (uses : List WireUse) (count left : ℕ) → 0 < count
      → from_use wires after routing uses count left [] ≡ refused MissingLine after
  end-use uses count left some =
      let one : count ≡ suc (count - 1) = omega arith in
      ap (λ k. from_use wires after routing uses k left []) one

  pub end-count : (left : ℕ) → 0 < left → with_nets routing (nets_from wires after left [])
      ≡ refused MissingLine after
  end-count left some =
      let one : left ≡ suc (left - 1) = omega arith in
      ap (λ k. with_nets routing (nets_from wires after k [])) one

  pub end-none : (left : ℕ) → left ≡ 0 → with_nets routing (nets_from wires after left []) ≡ Ok routing
  end-none left none = ap (λ k. with_nets routing (nets_from wires after k [])) none
      ∙ ap (λ (r : Routing). Ok r) (append-nil routing)
