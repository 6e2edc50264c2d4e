-- What the end of a run says, whatever was asked for.
use Rattle.std.proofs.Common.{◌≡◌, ◌⊎◌, ◌<◌, ◌≤◌, length, refl, sym, ap, subst, ◌∙◌, inl, inr, arith}
use Rattle.std.specs.Prelude.{Option, Some, None}
use Rattle.tdm_desk.specs.declared.slots.InSlot.{InSlot}
use Rattle.tdm_desk.specs.Files.{Files}
use Rattle.tdm_desk.specs.Seen.{Seen, files_of}
use Rattle.tdm_desk.specs.Counts.{Counts, WritingFailed, read_counted, read_faults, write_faults, with_read_faults}
use Rattle.command_run.specs.Slots.{place, KeepsOutputsBehind, AreClosed}
use Rattle.command_run.specs.Outcome.{Outcome, with_unread}
use Rattle.command_run.specs.Inputs.{HoldEach, contents_in, unread}
use Rattle.command_run.specs.Decision.{IsCalledFor}
use Rattle.command_run.specs.Outputs.{IsStop, IsPutOut, IsCutOff}
use Rattle.command_run.specs.Ends.{RunEnds}
use Rattle.command_run.proofs.StatusLaws.{contents-told}
use Rattle.tdm_cli.specs.declared.status.Status.{Status}
use Rattle.tdm_cli.specs.declared.status.Status.TheVariants as status
use Rattle.tdm_cli.specs.Kinds.{faults}
use Rattle.tdm_cli.specs.Request.{Request, inputs_of, outputs_of}
use Rattle.tdm_cli.specs.Outcomes.{CallsFor}
use Rattle.tdm_cli.specs.Asked.{StatusFor, IsOutsideFault}
use Rattle.tdm_cli.specs.Ended.{IsAsCalled, TellsFaults, ReportsReadFault}
use Rattle.tdm_cli.proofs.FairLaws.{IsOwn, IsNothing, IsDecided, IsFair, fair}
use Rattle.tdm_cli.proofs.AskedLaws.{status-for, status-one}

-- a fault of reading leaves the count of writing
kept-writing : (u : Option InSlot) (counts : Counts) → write_faults (with_unread u counts)
    ≡ write_faults counts
unfolding write_faults read_counted with_read_faults
kept-writing None counts = refl
kept-writing (Some slot) counts = refl

module _ {D : Type 0} (counts : D → Counts) (steady : D → Type 0) (seen : D → Seen) (request : Request)
    (before after : D) (answer : Status) where
  abbrev Ends : Type 0
  Ends = RunEnds counts steady seen faults (inputs_of request) (outputs_of request) (CallsFor request) before
      after answer

  abbrev Came : Outcome Status → Type 0
  Came outcome = IsCalledFor counts steady seen 0 (inputs_of request) (CallsFor request) outcome before after

  abbrev Put : Outcome Status → Type 0
  Put outcome = IsPutOut counts steady seen faults (outputs_of request) outcome.texts outcome.report
      outcome.status outcome.unread before after answer

  -- an outcome was put out, of which all inputs could be read or one could not; or writing failed, or memory
  -- was wanting
  pub ended : Ends → (P : Type 0)
      → ((outcome : Outcome Status) → Came outcome → Put outcome
      → KeepsOutputsBehind (length outcome.texts) (seen before) (seen after)
      → IsDecided request outcome → P)
      → ((slot : InSlot) → place slot ≤ length (inputs_of request) → Came (unread faults slot)
      → Put (unread faults slot) → KeepsOutputsBehind 0 (seen before) (seen after) → P)
      → (answer ≡ status.WriteFault → WritingFailed counts steady before after → P)
      → ((u : Option InSlot) → answer ≡ status.OutOfMemory → counts after ≡ with_unread u (counts before) → P)
      → P
  ended (inr wanted) P whole failed unwritten wanting = wanting None wanted.wanting wanted.own
  ended (inl ends) P whole failed unwritten wanting = by ends.ends
    where
      put-out : (outcome : Outcome Status) → Came outcome → Put outcome
          → KeepsOutputsBehind (length outcome.texts) (seen before) (seen after) → IsFair request outcome → P
      put-out outcome came put kept (inr decided) = whole outcome came put kept decided
      put-out outcome came put kept (inl (slot, near, is)) =
          failed slot near (subst Came is came) (subst Put is put)
          (subst (λ (o : Outcome Status). KeepsOutputsBehind (length o.texts) (seen before) (seen after))
          is kept)

      by : IsPutOut counts steady seen faults (outputs_of request) ends.outcome.texts ends.outcome.report
          ends.outcome.status ends.outcome.unread before after answer
          ⊎ IsCutOff counts steady seen faults (outputs_of request) ends.outcome.texts ends.outcome.report
          ends.outcome.status ends.outcome.unread before after answer → P
      by (inl put) = put-out ends.outcome ends.came put ends.untouched
          (fair request ends.came.contents ends.outcome ends.came.called)
      by (inr cut) = stop cut.cause
        where
          stop : IsStop counts steady faults ends.outcome.unread before after answer → P
          stop (inl fault) = unwritten fault.0 fault.1
          stop (inr wanted) = wanting ends.outcome.unread wanted.0 wanted.1

  -- at a status of the command's own an outcome was put out of which all inputs could be read
  pub ended-own : Ends → ¬ IsOutsideFault answer → (P : Type 0)
      → ((outcome : Outcome Status) → Came outcome → Put outcome
      → KeepsOutputsBehind (length outcome.texts) (seen before) (seen after)
      → IsDecided request outcome → P) → P
  ended-own ends no_fault P whole = ended ends P whole
      (λ slot near came put kept. absurd (no_fault (subst IsOutsideFault (sym put.stands) tt)))
      (λ is failed. absurd (no_fault (subst IsOutsideFault (sym is) tt)))
      (λ u is own. absurd (no_fault (subst IsOutsideFault (sym is) tt)))

  -- the status is the command's own
  decided-own : (outcome : Outcome Status) → Put outcome → IsDecided request outcome → IsOwn answer
  decided-own outcome put decided = subst IsOwn (sym put.stands) decided.own

  -- where the desk tells its files, the outcome is one that they call for
  pub told-calls : (files : Files) → files_of (seen before) ≡ Some files → (outcome : Outcome Status)
      → Came outcome → IsDecided request outcome
      → CallsFor request (contents_in files (inputs_of request)) outcome
  told-calls files told outcome came decided =
      subst (λ cs. CallsFor request cs outcome)
      (contents-told outcome.opened files (seen before) (seen after) told (inputs_of request) came.contents
      (subst (λ u. HoldEach outcome.opened u (inputs_of request) came.contents (seen before) (seen after))
      decided.readable came.held)) came.called

  -- the answer is a status that the files call for
  told-status : (files : Files) → files_of (seen before) ≡ Some files → (outcome : Outcome Status)
      → Came outcome → Put outcome → IsDecided request outcome → StatusFor request files answer
  told-status files told outcome came put decided =
      subst (StatusFor request files) (sym put.stands)
      (status-for request files outcome (told-calls files told outcome came decided))

  run-cause : Ends → (files : Files) → files_of (seen before) ≡ Some files → IsOutsideFault answer
      ⊎ StatusFor request files answer
  run-cause ends files told = ended ends (IsOutsideFault answer ⊎ StatusFor request files answer)
      (λ outcome came put kept decided. inr (told-status files told outcome came put decided))
      (λ slot near came put kept. inl (subst IsOutsideFault (sym put.stands) tt))
      (λ is failed. inl (subst IsOutsideFault (sym is) tt))
      (λ u is own. inl (subst IsOutsideFault (sym is) tt))

  pub run-called : Ends → (files : Files) → files_of (seen before) ≡ Some files
      → IsAsCalled counts steady request files before after answer
  run-called ends files told = record {
    cause = run-cause ends files told;
    exact = λ called calls. by called calls (run-cause ends files told);
    complete = λ called calls no_read no_write. ended ends ((answer ≡ called) ⊎ (answer ≡ status.OutOfMemory))
        (λ outcome came put kept decided. inl (status-one request files answer called
        (told-status files told outcome came put decided) calls))
        (λ slot near came put kept. absurd (no_read slot near came.failed))
        (λ is failed. absurd (no_write failed))
        (λ u is own. inr is);
  }
    where
      by : (called : Status) → StatusFor request files called → IsOutsideFault answer
          ⊎ StatusFor request files answer → (answer ≡ called) ⊎ IsOutsideFault answer
      by called calls (inl fault) = inr fault
      by called calls (inr is) = inl (status-one request files answer called is calls)

  pub run-read_fault : Ends → answer ≡ status.ReadFault
      → ReportsReadFault counts steady seen request before after
  run-read_fault ends fault = ended ends (ReportsReadFault counts steady seen request before after)
      (λ outcome came put kept decided. absurd (subst IsOwn fault (decided-own outcome put decided)))
      (λ slot near came put kept. record {
        slot = slot;
        asked = near;
        failed = came.failed;
        own = put.own;
        said = put.left.said;
      })
      (λ is failed. absurd (let e : status.ReadFault ≡ status.WriteFault = sym fault ∙ is in cc))
      (λ u is own. absurd (let e : status.ReadFault ≡ status.OutOfMemory = sym fault ∙ is in cc))

  pub run-write_fault : Ends → answer ≡ status.WriteFault → WritingFailed counts steady before after
  run-write_fault ends fault = ended ends (WritingFailed counts steady before after)
      (λ outcome came put kept decided. absurd (subst IsOwn fault (decided-own outcome put decided)))
      (λ slot near came put kept. absurd (let e : status.WriteFault ≡ status.ReadFault = sym fault
      ∙ put.stands in cc))
      (λ is failed. failed)
      (λ u is own. absurd (let e : status.WriteFault ≡ status.OutOfMemory = sym fault ∙ is in cc))

  pub run-usage : Ends → answer ≡ status.Usage → IsNothing request
  run-usage ends usage = ended-own ends (subst IsOutsideFault usage) (IsNothing request)
      (λ outcome came put kept decided. decided.usage (sym put.stands ∙ usage))

  pub run-closed : Ends → answer ≡ status.Ok → AreClosed (length (outputs_of request)) (seen after)
  run-closed ends ok =
      ended-own ends (subst IsOutsideFault ok) (AreClosed (length (outputs_of request)) (seen after))
      (λ outcome came put kept decided. subst (λ n. AreClosed n (seen after))
      (decided.written (sym put.stands ∙ ok)) put.closed)

  pub run-told : Ends → TellsFaults counts before after answer
  run-told ends = record {
    writing = λ rose. ended ends (answer ≡ status.WriteFault)
        (λ outcome came put kept decided. absurd (unwritten outcome.unread put.own rose))
        (λ slot near came put kept. absurd (unwritten (Some slot) put.own rose))
        (λ is failed. is)
        (λ u is own. absurd (unwritten u own rose));
    reading = λ slot rose. ended ends (IsOutsideFault answer)
        (λ outcome came put kept decided. absurd (let same = own-counts outcome put decided in omega
        (arith, rose, ap (read_faults slot) same)))
        (λ other near came put kept. subst IsOutsideFault (sym put.stands) tt)
        (λ is failed. subst IsOutsideFault (sym is) tt)
        (λ u is own. subst IsOutsideFault (sym is) tt);
    uncounted = λ no_fault. ended-own ends no_fault (counts after ≡ counts before)
        (λ outcome came put kept decided. own-counts outcome put decided);
  }
    where
      unwritten : (u : Option InSlot) → counts after ≡ with_unread u (counts before)
          → ¬ (write_faults (counts before) < write_faults (counts after))
      unwritten u own = λ rose. omega (arith, rose, ap write_faults own, kept-writing u (counts before))

      own-counts : (outcome : Outcome Status) → Put outcome → IsDecided request outcome
          → counts after ≡ counts before
      own-counts outcome put decided = put.own ∙ ap (λ u. with_unread u (counts before)) decided.readable
