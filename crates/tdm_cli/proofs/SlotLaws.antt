-- Which inputs and outputs a run touched, whatever was asked for, and which it read to their ends.
use Rattle.std.proofs.Common.{◌≡◌, ◌≢◌, ◌⊎◌, ◌≤◌, List, [], ◌∷◌, length, refl, sym, ap, subst, ◌∙◌, inl, inr, arith}
use Rattle.std.specs.Prelude.{Option, Some, None, option_map}
use Rattle.tdm_desk.specs.Files.{Bytes, Files, Name}
use Rattle.tdm_desk.specs.Seen.{Seen, files_of}
use Rattle.tdm_desk.specs.Counts.{Counts}
use Rattle.command_run.specs.Slots.{KeepsInputsBut, KeepsOutputsBehind}
use Rattle.command_run.specs.Outcome.{Outcome}
use Rattle.command_run.specs.Inputs.{unread}
use Rattle.command_run.specs.Outputs.{with_files, Leaves, IsPutOut}
use Rattle.command_run.specs.Ends.{RunEnds}
use Rattle.command_run.specs.Outputs.{IsCutOff}
use Rattle.command_run.proofs.DecisionLaws.{wider}
use Rattle.command_run.proofs.OutputLaws.{out-positive}
use Rattle.tdm_cli.specs.declared.status.Status.{Status}
use Rattle.tdm_cli.specs.declared.status.Status.TheVariants as status
use Rattle.tdm_cli.specs.Kinds.{faults}
use Rattle.tdm_cli.specs.Request.{Request, inputs_of, outputs_of}
use Rattle.tdm_cli.specs.Outcomes.{CallsFor}
use Rattle.tdm_cli.specs.Ended.{TouchesOnly, WritesNothing}
use Rattle.tdm_cli.proofs.FairLaws.{IsFair, fair}
use Rattle.tdm_cli.proofs.EndedLaws.{ended}

same : (names : List Name) (files : Option Files) → option_map (with_files names []) files ≡ files
same names None = refl
same names (Some files) = refl

no-names : (texts : List Bytes) (files : Option Files) → option_map (with_files [] texts) files ≡ files
no-names texts None = refl
no-names [] (Some files) = refl
no-names (text ∷ texts) (Some files) = refl

module _ {D : Type 0} (counts : D → Counts) (steady : D → Type 0) (seen : D → Seen) (request : Request)
    (before after : D) (answer : Status) where
  abbrev Ends : Type 0
  Ends = RunEnds counts steady seen faults (inputs_of request) (outputs_of request) (CallsFor request) before
      after answer

  fair-opened : (outcome : Outcome Status) → IsFair request outcome
      → outcome.opened ≤ length (inputs_of request)
  fair-opened outcome (inl (slot, near, is)) =
      subst (λ (o : Outcome Status). o.opened ≤ length (inputs_of request)) (sym is) near
  fair-opened outcome (inr decided) = decided.opened

  writes-nothing : Ends → answer ≢ status.Ok → answer ≢ status.WriteFault → answer ≢ status.OutOfMemory
      → WritesNothing (seen before) (seen after)
  writes-nothing ends not_ok no_write no_memory = ended counts steady seen request before after answer ends
      (WritesNothing (seen before) (seen after))
      (λ outcome came put kept decided. by outcome put kept (none outcome decided.silent put.stands))
      (λ slot near came put kept. by (unread faults slot) put kept refl)
      (λ is failed. absurd (no_write is))
      (λ u is own. absurd (no_memory is))
    where
      none : (outcome : Outcome Status) → (outcome.status ≡ status.Ok) ⊎ (outcome.texts ≡ [])
          → answer ≡ outcome.status → outcome.texts ≡ []
      none outcome (inl ok) stands = absurd (not_ok (stands ∙ ok))
      none outcome (inr is) stands = is

      by : (outcome : Outcome Status)
          → IsPutOut counts steady seen faults (outputs_of request) outcome.texts outcome.report
          outcome.status outcome.unread before after answer
          → KeepsOutputsBehind (length outcome.texts) (seen before) (seen after) → outcome.texts ≡ []
          → WritesNothing (seen before) (seen after)
      by outcome put kept is = record {
        files = put.left.files
            ∙ ap (λ ts. option_map (with_files (outputs_of request) ts) (files_of (seen before))) is
            ∙ same (outputs_of request) (files_of (seen before));
        outputs = λ slot. subst (λ ts. KeepsOutputsBehind (length ts) (seen before) (seen after)) is kept slot
            (out-positive slot);
      }

  -- a request without outputs changes no file
  kept-files : Ends → outputs_of request ≡ [] → files_of (seen after) ≡ files_of (seen before)
  kept-files (inr wanting) none = wanting.only.files
  kept-files (inl ends) none = by ends.ends
    where
      left : (texts : List Bytes) (report : Bytes)
          → Leaves (seen before) (seen after) (outputs_of request) texts report
          → files_of (seen after) ≡ files_of (seen before)
      left texts report it = it.files
          ∙ ap (λ names. option_map (with_files names texts) (files_of (seen before))) none
          ∙ no-names texts (files_of (seen before))

      by : IsPutOut counts steady seen faults (outputs_of request) ends.outcome.texts ends.outcome.report
          ends.outcome.status ends.outcome.unread before after answer
          ⊎ IsCutOff counts steady seen faults (outputs_of request) ends.outcome.texts ends.outcome.report
          ends.outcome.status ends.outcome.unread before after answer
          → files_of (seen after) ≡ files_of (seen before)
      by (inl put) = left _ _ put.left
      by (inr cut) = left _ _ cut.left

  pub run-slots : Ends → TouchesOnly request (seen before) (seen after) answer
  run-slots ends = record {
    inputs = touched-inputs ends;
    outputs = touched-outputs ends;
    kept = kept-files ends;
    writes = writes-nothing ends;
  }
    where
      touched-inputs : Ends → KeepsInputsBut 0 (length (inputs_of request)) (seen before) (seen after)
      touched-inputs (inl ends) = wider 0 ends.outcome.opened (length (inputs_of request)) (seen before)
          (seen after) (fair-opened ends.outcome
          (fair request ends.came.contents ends.outcome ends.came.called)) ends.came.reach
      touched-inputs (inr wanting) = wanting.only.inputs

      touched-outputs : Ends → KeepsOutputsBehind (length (outputs_of request)) (seen before) (seen after)
      touched-outputs (inl ends) = λ slot far. ends.untouched slot (omega (arith, ends.room, far))
      touched-outputs (inr wanting) = λ slot far. wanting.only.outputs slot
