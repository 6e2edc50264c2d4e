-- Where a solution text stands: what its lines so far have said, and what the lines that still come make of
-- that.
use Rattle.std.specs.Prelude.{◌≡◌, ℕ, zero, suc, ◌+◌, ◌-◌, ◌<◌, ◌≤◌, List, ◌∷◌, ◌++◌, length, All, Option, Result, Ok, Err}
use Rattle.tdm_lines.specs.declared.line.TokenFault.{TokenFault}
use Rattle.tdm_lines.specs.Lines.{Line}
use Rattle.tdm_lines.specs.FirstNumbers.{AreFirst}
use Rattle.tdm_problem.specs.declared.solution.WireUse.{WireUse}
use Rattle.tdm_problem.specs.Limits.{most_nets}
use Rattle.tdm_problem.specs.Routing.{Routing}
use Rattle.solution_text.specs.declared.refusal.SolutionKind.TheVariants.{ExtraLine}
use Rattle.solution_text.specs.Kinds.{SolutionRefusal, of_token}
use Rattle.solution_text.specs.declared.state.Role.{Role}
use Rattle.solution_text.specs.declared.state.Role.TheVariants as role
use Rattle.solution_text.specs.declared.state.SolutionState.{SolutionState}
use Rattle.tdm_lines.specs.Refusals.{refused, line_said, ◌>>=◌}
use Rattle.solution_text.specs.Reading.{largest_number, count_said, use_said, uses_from, nets_from}
use Rattle.solution_text.specs.Steps.{Marks, with_nets}

-- what line n says where so many nets are still to come: how many uses the next one has
abbrev pub count_of : (left n : ℕ) → Option TokenFault → List ℕ → Result ℕ SolutionRefusal
count_of zero n fault numbers = refused ExtraLine n
count_of (suc left) n fault numbers = line_said of_token count_said n fault numbers

-- what line n says where a use is still to come: a use that is none of the earlier ones
abbrev pub use_of : ℕ → List WireUse → ℕ → Option TokenFault → List ℕ → Result WireUse SolutionRefusal
use_of wires earlier n fault numbers = line_said of_token (use_said wires earlier) n fault numbers

-- the uses of a net, of which so many lines are still to come, and then so many further nets
abbrev pub from_use : ℕ → ℕ → Routing → List WireUse → ℕ → ℕ → List Line → Result Routing SolutionRefusal
from_use wires after routing uses count nets lines =
    with_nets routing (do
      net ← uses_from wires after uses count lines
      rest ← nets_from wires after nets net.1
      Ok (net.0 ∷ rest))

-- what the text says whose lines so far made this state, where these lines are still to come and `after` is
-- the line after the text
abbrev pub said_in : Role → ℕ → ℕ → Routing → List WireUse → ℕ → ℕ → List Line
    → Result Routing SolutionRefusal
said_in role.Count wires left routing uses count after lines =
    with_nets routing (nets_from wires after left lines)
said_in role.Use wires left routing uses count after lines =
    from_use wires after routing uses count (left - 1) lines
said_in (role.Refused refusal) wires left routing uses count after lines = Err refusal

abbrev pub said_of : SolutionState → ℕ → List Line → Result Routing SolutionRefusal
said_of state after lines = said_in state.role state.wires state.left state.solution state.uses.items
    state.count after lines

-- the lines so far made this state: whatever comes, the text says what the state says of that
abbrev pub Reads : SolutionState → List Line → Type 0
Reads state done = (after : ℕ) (more : List Line) → nets_from state.wires after state.nets (done ++ more)
    ≡ said_of state after more

-- the first numbers of the line in progress
abbrev pub Holds : SolutionState → List ℕ → Type 0
Holds state numbers = AreFirst state.numbers numbers

-- the stamps of the wires, where so many nets are read: those of the net in progress are marked
abbrev pub IsStamped : Role → ℕ → ℕ → ℕ → ℕ → List ℕ → List WireUse → Type 0
IsStamped role.Count wires read left count stamps uses = All (λ s. s ≤ read) stamps
IsStamped role.Use wires read left count stamps uses = (0 < left) × (0 < count) × (length stamps ≡ wires)
    × Marks stamps (read + 1) uses
IsStamped (role.Refused refusal) wires read left count stamps uses = Unit {0}

-- what holds of each state
pub record IsFine (state : SolutionState) : Type 0 where
  pub most : state.numbers.most ≡ 3
  pub largest : state.numbers.largest ≡ largest_number
  pub nets : state.nets ≤ most_nets
  pub read : length state.solution + state.left ≡ state.nets
  pub stamped : IsStamped state.role state.wires (length state.solution) state.left state.count
      state.stamps.items state.uses.items
