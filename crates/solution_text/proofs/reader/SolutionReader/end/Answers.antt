use Rattle.std.proofs.Common.{◌≡◌, ℕ, List, [], ◌∷◌, length, get_or, ap, sym, subst, ◌∙◌, refl}
use Rattle.std.proofs.lemmas.Result.{err_from_is_err_and}
use Rattle.std.proofs.lemmas.List.{append-nil}
use Rattle.tdm_lines.specs.Lines.{lines}
use Rattle.tdm_lines.specs.Reader.{IsWhole}
use Rattle.tdm_lines.specs.declared.reading.Reading.{Reading}
use Rattle.tdm_lines.proofs.TooLong.{too-long}
use Rattle.tdm_problem.specs.Board.{Board}
use Rattle.solution_text.specs.declared.refusal.SolutionKind.TheVariants.{TooLong}
use Rattle.solution_text.specs.declared.state.SolutionState.{SolutionState}
use Rattle.solution_text.specs.Reading.{solution_of, nets_from, largest_number, most_bytes}
use Rattle.solution_text.specs.Roles.{Reads, said_of}
use Rattle.solution_text.specs.Reader.{IsAt}
use Rattle.solution_text.proofs.ForBoard.{solution_is_for}
use Rattle.solution_text.proofs.RoleLaws.{whole_is}
use Rattle.solution_text.proofs.reader.SolutionReader.end.Goals as goal
use Rattle.solution_text.proofs.reader.SolutionReader.end.Goals.{In_ok-state}

-- a text that is not too long says what the state says that its lines made
said : (board : Board) (text : List ℕ) (end : ℕ) (state : SolutionState)
    → state.wires ∷ state.nets ∷ [] ≡ length board.wires ∷ length board.nets ∷ []
    → IsWhole Reads largest_number most_bytes state end text → solution_of board text ≡ said_of state end []
said board text end state sizes whole =
    whole_is board text state.wires end state.nets (lines largest_number text) whole.short
    (ap (λ (xs : List ℕ). get_or xs 0 0) sizes) whole.end_is (ap (λ (xs : List ℕ). get_or xs 1 0) sizes) refl
    ∙ ap (nets_from state.wires end state.nets) (sym (append-nil (lines largest_number text)))
    ∙ whole.read end []

-- the text says what the state says where it ends
whole : (c : In_ok-state) (board : Board) (text : List ℕ) → IsAt c.args.self board text
    → solution_of board text ≡ said_of c.in_ok-state.state c.in_ok-state.end []
whole c board text there =
    let inside = subst (λ (r : Reading SolutionState). IsAt r board text) (sym c.self.view_is) there in
    said board text c.in_ok-state.end c.in_ok-state.state (c.in_ok-state.ensures.sizes ∙ inside.sizes)
    (c.in_ok-state.ensures.read text inside.fed_is)

pub returns-in_err-state-clause-fault : goal.returns-in_err-state-clause-fault
returns-in_err-state-clause-fault c =
    let p = err_from_is_err_and c.from_residual.result c.from_residual.ensures.1 in
    rw (p.1, p.2) (λ board text there.
    let inside = subst (λ (r : Reading SolutionState). IsAt r board text) (sym c.self.view_is) there in
    too-long most_bytes TooLong text _ _ (c.in_err-state.ensures.fault text inside.fed_is))

pub returns-in_err-finish-clause-fault : goal.returns-in_err-finish-clause-fault
returns-in_err-finish-clause-fault c =
    let p =
    err_from_is_err_and c.from_residual-in_err-finish.result c.from_residual-in_err-finish.ensures.1 in
    rw (p.1, p.2) (λ board text there.
    whole (goal.at.returns-in_err-finish-clause-fault c).In_ok-state board text there
    ∙ sym c.finish-2.ensures ∙ c.in_err-finish.was)

pub returns-clause-for_problem : goal.returns-clause-for_problem
returns-clause-for_problem c = λ board text there.
    solution_is_for board text _ (whole (goal.at.returns-clause-for_problem c).In_ok-state board text there
    ∙ sym c.finish-2.ensures ∙ c.in_ok-finish.was)
