-- What is known of each outcome that a request calls for.
use Rattle.std.proofs.Common.{◌≡◌, ◌≢◌, ◌⊎◌, ℕ, ◌≤◌, List, [], length, refl, sym, subst, inl, inr, arith}
use Rattle.std.specs.Prelude.{None}
use Rattle.tdm_desk.specs.declared.slots.InSlot.{InSlot}
use Rattle.tdm_desk.specs.declared.slots.InSlot.TheVariants.{In0, In1}
use Rattle.tdm_desk.specs.Files.{Bytes}
use Rattle.tdm_problem.specs.Board.{Board}
use Rattle.tdm_problem.specs.Routing.{Routing}
use Rattle.solution_eval.specs.declared.judgement.Verdict.{Verdict}
use Rattle.solution_eval.specs.declared.judgement.Verdict.TheVariants.{Legal}
use Rattle.bound_cert.specs.Certificate.{Cert}
use Rattle.cert_checker.specs.declared.answer.CheckAnswer.{CheckAnswer}
use Rattle.cert_checker.specs.declared.answer.CheckAnswer.TheVariants.{Accepted, Rejected}
use Rattle.command_run.specs.Slots.{place}
use Rattle.command_run.specs.Outcome.{Outcome}
use Rattle.command_run.specs.Inputs.{Content, TextKind, unread, ByInput, ByNone}
use Rattle.command_run.proofs.StatusLaws.{by-input, by-none}
use Rattle.tdm_cli.specs.declared.status.Status.{Status}
use Rattle.tdm_cli.specs.declared.status.Status.TheVariants as status
use Rattle.tdm_cli.specs.Kinds.{faults, boards, solutions, certificates}
use Rattle.tdm_cli.specs.Request.{Request, route, eval, check, gen, demo, nothing, inputs_of, outputs_of}
use Rattle.tdm_cli.specs.Reports.{verdict_report, answer_report}
use Rattle.tdm_cli.specs.Outcomes.{comes_to, refused_words, Routes, is_unconnectable, is_over_limit, is_routed, status_of_verdict, Judges, status_of_answer, Checks, Generates, Demonstrates, is_too_large, is_shown, JudgesNext, ChecksNext, CallsFor}

-- the status shows no fault of the outside, nor want of memory
abbrev pub IsOwn : Status → Type 0
IsOwn status.ReadFault = ⊥
IsOwn status.WriteFault = ⊥
IsOwn status.OutOfMemory = ⊥
IsOwn _ = Unit {0}

abbrev pub IsNothing : Request → Type 0
IsNothing nothing = Unit {0}
IsNothing request = ⊥

-- an input of the request could not be read
abbrev pub IsUnread : Request → Outcome Status → Type 0
IsUnread request outcome = (slot : InSlot) × (place slot ≤ length (inputs_of request))
    × (outcome ≡ unread faults slot)

-- all inputs that were opened could be read, and the status is the command's own
pub record IsDecided (request : Request) (outcome : Outcome Status) : Type 0 where
  pub readable : outcome.unread ≡ None
  pub opened : outcome.opened ≤ length (inputs_of request)
  pub reached : outcome.status ≡ status.Ok → length (inputs_of request) ≤ outcome.opened
  pub own : IsOwn outcome.status
  pub usage : outcome.status ≡ status.Usage → IsNothing request
  pub silent : (outcome.status ≡ status.Ok) ⊎ (outcome.texts ≡ [])
  pub written : outcome.status ≡ status.Ok → length outcome.texts ≡ length (outputs_of request)

abbrev pub IsFair : Request → Outcome Status → Type 0
IsFair request outcome = IsUnread request outcome ⊎ IsDecided request outcome

-- an outcome that writes nothing
silent : (request : Request) (opened : ℕ) (s : Status) (report : Bytes) → opened ≤ length (inputs_of request)
    → (s ≡ status.Ok → length (inputs_of request) ≤ opened) → IsOwn s → (s ≡ status.Usage → IsNothing request)
    → (s ≡ status.Ok → 0 ≡ length (outputs_of request)) → IsFair request (comes_to opened s report [])
silent request opened s report near reached own usage written = inr (record {
  readable = refl;
  opened = near;
  reached = reached;
  own = own;
  usage = usage;
  silent = inr refl;
  written = written;
})

-- an outcome that writes every output, behind all inputs
whole : (request : Request) (report : Bytes) (texts : List Bytes) → length texts ≡ length (outputs_of request)
    → IsFair request (comes_to (length (inputs_of request)) status.Ok report texts)
whole request report texts all = inr (record {
  readable = refl;
  opened = omega arith;
  reached = λ e. omega arith;
  own = tt;
  usage = λ e. cc;
  silent = inl refl;
  written = λ e. all;
})

module _ (board solution cert : Bytes) (rounds : ℕ) where
  abbrev routing : Request
  routing = route board solution cert rounds

  routes-fair : (problem : Board) (outcome : Outcome Status) → Routes problem rounds outcome
      → IsFair routing outcome
  routes-fair problem outcome (is_unconnectable nets are some is) =
      subst (IsFair routing) (sym is) (silent routing 1 status.Unconnectable _ (omega arith) (λ e. cc) tt
      (λ e. cc) (λ e. cc))
  routes-fair problem outcome (is_over_limit over is) =
      subst (IsFair routing) (sym is) (silent routing 1 status.UseLimit _ (omega arith) (λ e. cc) tt (λ e. cc)
      (λ e. cc))
  routes-fair problem outcome (is_routed solved proof bound improved is) =
      subst (IsFair routing) (sym is) (whole routing _ _ refl)

judges-fair : (board solution : Bytes) (problem : Board) (routing : Routing) (outcome : Outcome Status)
    → Judges problem routing outcome → IsFair (eval board solution) outcome
judges-fair board solution problem routing outcome judges =
    subst (IsFair (eval board solution)) (sym judges.is) (by judges.verdict)
  where
    by : (verdict : Verdict)
        → IsFair (eval board solution) (comes_to 2 (status_of_verdict verdict) (verdict_report verdict) [])
    by (Legal value) = silent (eval board solution) 2 status.Ok _ (omega arith) (λ e. omega arith) tt
        (λ e. cc) (λ e. refl)
    by _ = silent (eval board solution) 2 status.Illegal _ (omega arith) (λ e. omega arith) tt (λ e. cc)
        (λ e. refl)

checks-fair : (board cert : Bytes) (problem : Board) (proof : Cert) (outcome : Outcome Status)
    → Checks problem proof outcome → IsFair (check board cert) outcome
checks-fair board cert problem proof outcome checks =
    subst (IsFair (check board cert)) (sym checks.is) (by checks.answer)
  where
    by : (answer : CheckAnswer)
        → IsFair (check board cert) (comes_to 2 (status_of_answer answer) (answer_report answer) [])
    by (Accepted bound) = silent (check board cert) 2 status.Ok _ (omega arith) (λ e. omega arith) tt
        (λ e. cc) (λ e. refl)
    by (Rejected pair) = silent (check board cert) 2 status.CertRejected _ (omega arith) (λ e. omega arith) tt
        (λ e. cc) (λ e. refl)

generates-fair : (fpgas nets groups : ℕ) (board : Bytes) (outcome : Outcome Status)
    → Generates fpgas nets groups outcome → IsFair (gen fpgas nets groups board) outcome
generates-fair fpgas nets groups board outcome generates =
    subst (IsFair (gen fpgas nets groups board)) (sym generates.is)
    (whole (gen fpgas nets groups board) _ _ refl)

demonstrates-fair : (fpgas nets groups : ℕ) (solution cert : Bytes) (outcome : Outcome Status)
    → Demonstrates fpgas nets groups outcome → IsFair (demo fpgas nets groups solution cert) outcome
demonstrates-fair fpgas nets groups solution cert outcome (is_too_large over is) =
    subst (IsFair (demo fpgas nets groups solution cert)) (sym is)
    (silent (demo fpgas nets groups solution cert) 0 status.UseLimit _ (omega arith) (λ e. cc) tt
    (λ e. cc) (λ e. cc))
demonstrates-fair fpgas nets groups solution cert outcome (is_shown solved proof bound improved is) =
    subst (IsFair (demo fpgas nets groups solution cert)) (sym is)
    (whole (demo fpgas nets groups solution cert) _ _ refl)

-- the status is one of a text that is refused
abbrev IsRefusal : Status → Type 0
IsRefusal s = IsOwn s × (s ≢ status.Usage) × (s ≢ status.Ok)

-- what an input decides by itself is fair of every request that has it, and so all is where what follows from
-- its text is
input-fair : (request : Request) (slot : InSlot) → place slot ≤ length (inputs_of request)
    → {V R : Type 0} (kind : TextKind Status V R) → IsRefusal kind.status
    → (Then : V → List Content → Outcome Status → Type 0)
    → ((value : V) (contents : List Content) (outcome : Outcome Status) → Then value contents outcome
    → IsFair request outcome)
    → (contents : List Content) (outcome : Outcome Status) → ByInput faults slot kind Then contents outcome
    → IsFair request outcome
input-fair request slot near kind own Then each =
    by-input faults slot kind Then (λ contents outcome. IsFair request outcome)
    (λ rest. itself status.NoInput _ (tt, (λ e. cc), (λ e. cc)))
    (λ rest. inl (slot, near, refl))
    (λ bytes refusal rest says. itself kind.status _ own)
    (λ bytes value rest outcome says. each value rest outcome)
  where
    itself : (s : Status) (report : Bytes) → IsRefusal s → IsFair request (comes_to (place slot) s report [])
    itself s report refused = silent request (place slot) s report near (λ e. absurd (refused.2 e)) refused.0
        (λ e. absurd (refused.1 e)) (λ e. absurd (refused.2 e))

pub fair : (request : Request) (contents : List Content) (outcome : Outcome Status)
    → CallsFor request contents outcome → IsFair request outcome
fair (route board solution cert rounds) = input-fair (routing board solution cert rounds) In0
    (omega arith) boards (tt, (λ e. cc), (λ e. cc)) (λ problem. ByNone (Routes problem rounds))
    (λ problem. by-none (IsFair (routing board solution cert rounds)) (Routes problem rounds)
    (routes-fair board solution cert rounds problem))
fair (eval board solution) = input-fair (eval board solution) In0 (omega arith) boards (
  tt,
  (λ e. cc),
  (λ e. cc),
) JudgesNext
    (λ problem. input-fair (eval board solution) In1 (omega arith) (solutions problem) (
      tt,
      (λ e. cc),
      (λ e. cc),
    ) (λ solved. ByNone (Judges problem solved))
    (λ solved. by-none (IsFair (eval board solution)) (Judges problem solved)
    (judges-fair board solution problem solved)))
fair (check board cert) = input-fair (check board cert) In0 (omega arith) boards (
  tt,
  (λ e. cc),
  (λ e. cc),
) ChecksNext
    (λ problem. input-fair (check board cert) In1 (omega arith) (certificates problem) (
      tt,
      (λ e. cc),
      (λ e. cc),
    ) (λ proof. ByNone (Checks problem proof))
    (λ proof. by-none (IsFair (check board cert)) (Checks problem proof)
    (checks-fair board cert problem proof)))
fair (gen fpgas nets groups board) =
    by-none (IsFair (gen fpgas nets groups board)) (Generates fpgas nets groups)
    (generates-fair fpgas nets groups board)
fair (demo fpgas nets groups solution cert) = by-none (IsFair (demo fpgas nets groups solution cert))
    (Demonstrates fpgas nets groups) (demonstrates-fair fpgas nets groups solution cert)
fair nothing = by-none (IsFair nothing) (λ outcome. outcome ≡ refused_words)
    (λ outcome is. subst (IsFair nothing) (sym is) (silent nothing 0 status.Usage _ (omega arith)
    (λ e. omega arith) tt (λ e. tt) (λ e. cc)))
