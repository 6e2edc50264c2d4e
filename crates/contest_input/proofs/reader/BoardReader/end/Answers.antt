use Rattle.std.proofs.Common.{◌≡◌, ℕ, List, [], Result, Err, cond, length, Bool, ap, sym, subst, ◌∙◌}
use Rattle.std.proofs.lemmas.Result.{err_from_is_err_and}
use Rattle.std.proofs.lemmas.Bool.{le-ltb}
use Rattle.std.proofs.lemmas.List.{append-nil}
use Rattle.tdm_lines.specs.Lines.{Line, lines, line_after}
use Rattle.tdm_lines.specs.Reader.{IsWhole}
use Rattle.tdm_lines.specs.declared.reading.Reading.{Reading}
use Rattle.tdm_lines.proofs.TooLong.{too-long}
use Rattle.tdm_problem.specs.Board.{Board}
use Rattle.contest_input.specs.Kinds.{BoardRefusal}
use Rattle.contest_input.specs.declared.kind.BoardKind.TheVariants.{TooLong}
use Rattle.contest_input.specs.declared.roles.BoardState.{BoardState}
use Rattle.contest_input.specs.BoardText.{board_of, board_of_lines, largest_number, most_bytes}
use Rattle.contest_input.specs.Reader.{IsAt}
use Rattle.contest_input.specs.Roles.{Reads, said_in}
use Rattle.contest_input.proofs.reader.BoardReader.end.Goals as goal

-- a text that is not too long says what the state says that its lines made
said : (text : List ℕ) (end : ℕ) (state : BoardState) → IsWhole Reads largest_number most_bytes state end text
    → board_of text ≡ said_in state.role state.sizes state.draft state.left state.listed end []
said text end state whole =
    let found : List Line = lines largest_number text in
    let too_long : Result Board BoardRefusal = Err (record { kind = TooLong; line = 0 }) in
    ap (λ (b : Bool). cond b too_long (board_of_lines (line_after text) found))
    (le-ltb most_bytes (length text) whole.short)
    ∙ ap (λ (n : ℕ). board_of_lines n found) (sym whole.end_is)
    ∙ ap (board_of_lines end) (sym (append-nil found)) ∙ whole.read end []

pub returns-in_err-state-clause-refused : goal.returns-in_err-state-clause-refused
returns-in_err-state-clause-refused c =
    let p = err_from_is_err_and c.from_residual.result c.from_residual.ensures.1 in
    rw (p.1, p.2) (λ text there.
    let inside = subst (λ (r : Reading BoardState). IsAt r text) (sym c.self.view_is) there in
    too-long most_bytes TooLong text _ _ (c.in_err-state.ensures.fault text inside))
