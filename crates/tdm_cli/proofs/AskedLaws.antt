-- The status that the files call for is the one of each outcome that they call for, and there is one alone.
use Rattle.std.proofs.Common.{◌≡◌, ℕ, ◌<◌, List, [], ◌∷◌, length, refl, sym, ap, subst, ◌∙◌, inl, inr, arith, Contains}
use Rattle.std.specs.Prelude.{Option, Some, None, Result, Ok, Err}
use Rattle.std.specs.FinMap.{get}
use Rattle.tdm_desk.specs.declared.slots.InSlot.{InSlot}
use Rattle.tdm_desk.specs.declared.slots.InSlot.TheVariants.{In0, In1}
use Rattle.tdm_desk.specs.Files.{Bytes, Files}
use Rattle.tdm_problem.specs.Board.{Board}
use Rattle.tdm_problem.specs.Routing.{Routing}
use Rattle.solution_eval.specs.declared.judgement.Verdict.{Verdict}
use Rattle.solution_eval.specs.declared.judgement.Verdict.TheVariants.{Legal, NotJoined, BadRatio, Overfull}
use Rattle.solution_eval.specs.Verdict.{IsVerdict, SaysLegal}
use Rattle.tdm_problem.specs.Legal.{IsLegal}
use Rattle.board_generator.specs.Generated.{generated}
use Rattle.bound_cert.specs.Certificate.{Cert}
use Rattle.bound_cert.specs.Valid.{IsValid}
use Rattle.cert_checker.specs.declared.answer.CheckAnswer.{CheckAnswer}
use Rattle.cert_checker.specs.declared.answer.CheckAnswer.TheVariants.{Accepted, Rejected}
use Rattle.cert_checker.specs.Answer.{IsAnswer}
use Rattle.cert_checker.proofs.Steeps.{first_not_valid}
use Rattle.command_run.specs.Outcome.{Outcome}
use Rattle.command_run.specs.Inputs.{TextKind, content_of, contents_in, FromText, FromInput}
use Rattle.tdm_cli.specs.declared.status.Status.{Status}
use Rattle.tdm_cli.specs.declared.status.Status.TheVariants as status
use Rattle.tdm_cli.specs.Kinds.{faults, boards, solutions, certificates}
use Rattle.tdm_cli.specs.Request.{Request, route, eval, check, gen, demo, nothing, inputs_of}
use Rattle.tdm_cli.specs.Outcomes.{Routes, is_unconnectable, is_over_limit, is_routed, status_of_verdict, Judges, status_of_answer, Checks, Demonstrates, is_too_large, is_shown, CallsFor}
use Rattle.tdm_cli.specs.Asked.{SaidFor, FileFor, RoutingFor, YesOrNo, JudgingFor, CheckingFor, ShowingFor, StatusFor}

-- ---- each outcome that is called for has the status that the files call for

module _ {V R : Type 0} (slot : InSlot) (kind : TextKind Status V R) (Then : V → Outcome Status
    → Type 0) (For : V → Status → Type 0) (each : (value : V) (outcome : Outcome Status)
    → Then value outcome → For value outcome.status) where
  said-for : (said : Result V R) (outcome : Outcome Status) → FromText faults slot kind said Then outcome
      → SaidFor kind For said outcome.status
  said-for (Ok value) outcome is = each value outcome is
  said-for (Err refusal) outcome is = ap (λ (o : Outcome Status). o.status) is

  pub file-for : (found : Option Bytes) (outcome : Outcome Status)
      → FromInput faults slot kind (content_of found) Then outcome → FileFor kind For found outcome.status
  file-for None outcome is = ap (λ (o : Outcome Status). o.status) is
  file-for (Some bytes) outcome is = said-for (kind.says bytes) outcome is

pub first-of : (xs : List ℕ) → 0 < length xs → (x : ℕ) × Contains xs x
first-of [] h = absurd (omega arith)
first-of (x ∷ xs) h = (x, (0, omega arith, refl))

routing-for : (board : Board) (rounds : ℕ) (outcome : Outcome Status) → Routes board rounds outcome
    → RoutingFor board outcome.status
routing-for board rounds outcome (is_unconnectable nets are some is) =
    let net = first-of nets some in
    let apart = (are.exact net.0).0 net.1 in
    subst (λ (o : Outcome Status). RoutingFor board o.status) (sym is) (net.0, apart.0, apart.1)
routing-for board rounds outcome (is_over_limit over is) =
    subst (λ (o : Outcome Status). RoutingFor board o.status) (sym is) over
routing-for board rounds outcome (is_routed routing cert bound improved is) =
    subst (λ (o : Outcome Status). RoutingFor board o.status) (sym is) (improved.joined, improved.within)

judging-for : (board : Board) (routing : Routing) (outcome : Outcome Status) → Judges board routing outcome
    → JudgingFor board routing outcome.status
judging-for board routing outcome judges = subst (λ (o : Outcome Status). JudgingFor board routing o.status)
    (sym judges.is) (by judges.verdict judges.right judges.legal.1)
  where
    by : (verdict : Verdict) → IsVerdict board routing verdict → (IsLegal board routing → SaysLegal verdict)
        → JudgingFor board routing (status_of_verdict verdict)
    by (Legal value) right legal = inl (refl, right.0)
    by (NotJoined net) right legal = inr (refl, legal)
    by (BadRatio net wire ratio) right legal = inr (refl, legal)
    by (Overfull wire) right legal = inr (refl, legal)

checking-for : (board : Board) (cert : Cert) (outcome : Outcome Status) → Checks board cert outcome
    → CheckingFor board cert outcome.status
checking-for board cert outcome checks = subst (λ (o : Outcome Status). CheckingFor board cert o.status)
    (sym checks.is) (by checks.answer checks.right)
  where
    by : (answer : CheckAnswer) → IsAnswer board cert answer
        → CheckingFor board cert (status_of_answer answer)
    by (Accepted bound) right = inl (refl, right.0)
    by (Rejected pair) right = inr (refl, first_not_valid board cert pair right)

showing-for : (fpgas nets groups : ℕ) (outcome : Outcome Status) → Demonstrates fpgas nets groups outcome
    → ShowingFor (generated fpgas nets groups) outcome.status
showing-for fpgas nets groups outcome (is_too_large over is) =
    subst (λ (o : Outcome Status). ShowingFor (generated fpgas nets groups) o.status) (sym is) over
showing-for fpgas nets groups outcome (is_shown routing cert bound improved is) =
    subst (λ (o : Outcome Status). ShowingFor (generated fpgas nets groups) o.status) (sym is) improved.within

pub status-for : (request : Request) (files : Files) (outcome : Outcome Status)
    → CallsFor request (contents_in files (inputs_of request)) outcome
    → StatusFor request files outcome.status
status-for (route board solution cert rounds) files outcome calls =
    file-for In0 boards (λ problem. Routes problem rounds) RoutingFor
    (λ problem o is. routing-for problem rounds o is) (get files board) outcome calls
status-for (eval board solution) files outcome calls =
    file-for In0 boards _ (λ problem. FileFor (solutions problem) (JudgingFor problem) (get files solution))
    (λ problem o is. file-for In1 (solutions problem) (λ routing. Judges problem routing) (JudgingFor problem)
    (judging-for problem) (get files solution) o is) (get files board) outcome calls
status-for (check board cert) files outcome calls =
    file-for In0 boards _ (λ problem. FileFor (certificates problem) (CheckingFor problem) (get files cert))
    (λ problem o is. file-for In1 (certificates problem) (λ proof. Checks problem proof) (CheckingFor problem)
    (checking-for problem) (get files cert) o is) (get files board) outcome calls
status-for (gen fpgas nets groups board) files outcome calls = ap (λ (o : Outcome Status). o.status) calls.is
status-for (demo fpgas nets groups solution cert) files outcome calls =
    showing-for fpgas nets groups outcome calls
status-for nothing files outcome calls = ap (λ (o : Outcome Status). o.status) calls

-- ---- there is one such status

-- two statuses for which this holds are the same
abbrev pub OneStatus : (Status → Type 0) → Type 0
OneStatus For = (s t : Status) → For s → For t → s ≡ t

one-of : (s : Status) → OneStatus (λ answer. answer ≡ s)
one-of s a b first second = first ∙ sym second

module _ {V R : Type 0} (kind : TextKind Status V R) (For : V → Status → Type 0) (each : (value : V)
    → OneStatus (For value)) where
  said-one : (said : Result V R) → OneStatus (SaidFor kind For said)
  said-one (Ok value) = each value
  said-one (Err refusal) = one-of kind.status

  file-one : (found : Option Bytes) → OneStatus (FileFor kind For found)
  file-one None = one-of status.NoInput
  file-one (Some bytes) = said-one (kind.says bytes)

routing-one : (board : Board) → OneStatus (RoutingFor board)
routing-one board status.Unconnectable status.Unconnectable h k = refl
routing-one board status.Unconnectable status.UseLimit h k = absurd (h.2 (k.joined h.0 h.1))
routing-one board status.Unconnectable status.Ok h k = absurd (h.2 (k.0 h.0 h.1))
routing-one board status.Unconnectable _ h k = absurd k
routing-one board status.UseLimit status.Unconnectable h k = absurd (k.2 (h.joined k.0 k.1))
routing-one board status.UseLimit status.UseLimit h k = refl
routing-one board status.UseLimit status.Ok h k = let most = k.1 h.trees h.base in let high = h.over in
    absurd (omega (arith, most, high))
routing-one board status.UseLimit _ h k = absurd k
routing-one board status.Ok status.Unconnectable h k = absurd (k.2 (h.0 k.0 k.1))
routing-one board status.Ok status.UseLimit h k = let most = h.1 k.trees k.base in let high = k.over in
    absurd (omega (arith, most, high))
routing-one board status.Ok status.Ok h k = refl
routing-one board status.Ok _ h k = absurd k
routing-one board _ t h k = absurd h

yes-or-no-one : (Holds : Type 0) (so otherwise : Status) → OneStatus (YesOrNo Holds so otherwise)
yes-or-no-one Holds so otherwise s t (inl h) (inl k) = h.0 ∙ sym k.0
yes-or-no-one Holds so otherwise s t (inl h) (inr k) = absurd (k.1 h.1)
yes-or-no-one Holds so otherwise s t (inr h) (inl k) = absurd (h.1 k.1)
yes-or-no-one Holds so otherwise s t (inr h) (inr k) = h.0 ∙ sym k.0

showing-one : (board : Board) → OneStatus (ShowingFor board)
showing-one board status.UseLimit status.UseLimit h k = refl
showing-one board status.UseLimit status.Ok h k = let most = k h.trees h.base in let high = h.over in
    absurd (omega (arith, most, high))
showing-one board status.UseLimit _ h k = absurd k
showing-one board status.Ok status.UseLimit h k = let most = h k.trees k.base in let high = k.over in
    absurd (omega (arith, most, high))
showing-one board status.Ok status.Ok h k = refl
showing-one board status.Ok _ h k = absurd k
showing-one board _ t h k = absurd h

pub status-one : (request : Request) (files : Files) → OneStatus (StatusFor request files)
status-one (route board solution cert rounds) files = file-one boards RoutingFor routing-one (get files board)
status-one (eval board solution) files =
    file-one boards _ (λ problem. file-one (solutions problem) (JudgingFor problem)
    (λ routing. yes-or-no-one (IsLegal problem routing) status.Ok status.Illegal) (get files solution))
    (get files board)
status-one (check board cert) files =
    file-one boards _ (λ problem. file-one (certificates problem) (CheckingFor problem)
    (λ proof. yes-or-no-one (IsValid problem proof) status.Ok status.CertRejected) (get files cert))
    (get files board)
status-one (gen fpgas nets groups board) files = one-of status.Ok
status-one (demo fpgas nets groups solution cert) files = showing-one (generated fpgas nets groups)
status-one nothing files = one-of status.Usage
