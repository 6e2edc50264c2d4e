use Rattle.std.proofs.Common.{◌≡◌, ℕ, List, [], ap, sym, subst, ◌∙◌}
use Rattle.std.proofs.lemmas.Result.{err_from_is_err_and}
use Rattle.std.proofs.lemmas.List.{append-nil}
use Rattle.tdm_lines.specs.Lines.{lines, line_after}
use Rattle.tdm_lines.specs.Reader.{IsWhole}
use Rattle.tdm_lines.specs.declared.reading.Reading.{Reading}
use Rattle.tdm_lines.proofs.TooLong.{too-long}
use Rattle.tdm_problem.specs.Board.{Board}
use Rattle.bound_cert.specs.declared.refusal.CertTextKind.TheVariants.{TooLong}
use Rattle.bound_cert.specs.declared.state.CertState.{CertState}
use Rattle.bound_cert.specs.declared.state.Sizes.{Sizes}
use Rattle.bound_cert.specs.CertReader.{IsAt, listed, sizes_of}
use Rattle.bound_cert.specs.CertReading.{cert_of, most_bytes}
use Rattle.bound_cert.specs.Limits.{most_potential_value}
use Rattle.bound_cert.specs.Roles.{Reads, from_header, said_of}
use Rattle.bound_cert.proofs.Accepted.{accepted-for}
use Rattle.bound_cert.proofs.RoleLaws.{whole-is, same-sizes}
use Rattle.bound_cert.proofs.reader.CertReader.end.Goals as goal
use Rattle.bound_cert.proofs.reader.CertReader.end.Goals.{In_ok-state}

-- a text that is not too long says what the state says that its lines made
said : (board : Board) (text : List ℕ) (end : ℕ) (state : CertState)
    → listed state.sizes ≡ listed (sizes_of board)
    → IsWhole Reads most_potential_value most_bytes state end text → cert_of board text ≡ said_of state end []
said board text end state sizes whole =
    whole-is board text whole.short
    ∙ sym (ap (λ (s : Sizes). from_header (line_after text) s (lines most_potential_value text))
    (same-sizes state.sizes (sizes_of board) sizes))
    ∙ sym (ap (λ n. from_header n state.sizes (lines most_potential_value text)) whole.end_is)
    ∙ ap (from_header end state.sizes) (sym (append-nil (lines most_potential_value text)))
    ∙ whole.read end []

-- the text says what the state says where it ends
whole : (c : In_ok-state) (board : Board) (text : List ℕ) → IsAt c.args.self board text
    → cert_of board text ≡ said_of c.in_ok-state.state c.in_ok-state.end []
whole c board text there =
    let inside = subst (λ (r : Reading CertState). IsAt r board text) (sym c.self.view_is) there in
    said board text c.in_ok-state.end c.in_ok-state.state (c.in_ok-state.ensures.sizes ∙ inside.sizes)
    (c.in_ok-state.ensures.read text inside.fed_is)

pub returns-in_err-state-clause-fault : goal.returns-in_err-state-clause-fault
returns-in_err-state-clause-fault c =
    let p = err_from_is_err_and c.from_residual.result c.from_residual.ensures.1 in
    rw (p.1, p.2) (λ board text there.
    let inside = subst (λ (r : Reading CertState). IsAt r board text) (sym c.self.view_is) there in
    too-long most_bytes TooLong text _ _ (c.in_err-state.ensures.fault text inside.fed_is))

pub returns-in_err-finish-clause-fault : goal.returns-in_err-finish-clause-fault
returns-in_err-finish-clause-fault c =
    let p =
    err_from_is_err_and c.from_residual-in_err-finish.result c.from_residual-in_err-finish.ensures.1 in
    rw (p.1, p.2) (λ board text there.
    whole (goal.at.returns-in_err-finish-clause-fault c).In_ok-state board text there
    ∙ sym c.finish-2.ensures ∙ c.in_err-finish.was)

pub returns-clause-for_problem : goal.returns-clause-for_problem
returns-clause-for_problem c = λ board text there.
    accepted-for board text _ (whole (goal.at.returns-clause-for_problem c).In_ok-state board text there
    ∙ sym c.finish-2.ensures ∙ c.in_ok-finish.was)
