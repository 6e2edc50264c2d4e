-- How a run ends, by what was decided and how it was put out.
use Rattle.std.proofs.Common.{◌≡◌, ◌⊎◌, ℕ, ◌+◌, ◌≤◌, List, length, sym, ap, subst, ◌∙◌, inl, inr, arith}
use Rattle.std.proofs.lemmas.List.{length-map}
use Rattle.std.specs.Prelude.{Option, Some, None}
use Rattle.tdm_desk.specs.declared.slots.InSlot.{InSlot}
use Rattle.tdm_desk.specs.Files.{Bytes, Name}
use Rattle.tdm_desk.specs.Seen.{Seen}
use Rattle.tdm_desk.specs.Counts.{Counts, CountsFaults, write_counted}
use Rattle.tdm_desk.proofs.CountLaws.{reading_failed_before, writing_failed_later}
use Rattle.command_run.specs.declared.outcome.Decision.{Decision}
use Rattle.command_run.specs.declared.outcome.Decision.TheVariants as decision
use Rattle.command_run.specs.Slots.{KeepsInputs}
use Rattle.command_run.specs.Outcome.{Outcome, Faults, outcome_of, with_unread, HasFailed}
use Rattle.command_run.specs.Inputs.{Input, Content, no_file, unreadable, text, Holds, unread}
use Rattle.command_run.specs.Decision.{OnlyReads, IsCalledFor, Decides}
use Rattle.command_run.specs.Outputs.{IsStop, IsPutOut, IsCutOff, PutsOut}
use Rattle.command_run.specs.Concluded.{HasRoom, Concludes}
use Rattle.command_run.specs.Ends.{RunEnds}
use Rattle.command_run.proofs.DecisionLaws.{kept-twice, still-read, each-held}
use Rattle.command_run.proofs.OutputLaws.{nothing-then}

-- inputs that are kept stay as they were read
holds-kept : (opened : ℕ) (failed : Option InSlot) (input : Input) (content : Content)
    (before between after : Seen) → KeepsInputs between after
    → Holds opened failed input content before between → Holds opened failed input content before after
holds-kept opened failed input no_file before between after kept held = held
holds-kept opened failed input unreadable before between after kept held = held
holds-kept opened failed input (text bytes) before between after kept held = (
  held.0,
  λ near. still-read input.slot input.limit input.name before between after (held.1 near)
      (kept input.slot),
)

module _ {D S T : Type 0} (counts : D → Counts) (steady : D → Type 0) (seen : D → Seen) (text_of : T
    → Bytes) (faults : Faults S) (inputs : List Input) (outputs : List Name) (Calls : List Content
    → Outcome S → Type 0) (before between after : D) (answer : S) where
  failed-before : (u : Option InSlot) → CountsFaults counts steady between after
      → HasFailed counts steady u before between → HasFailed counts steady u before after
  failed-before None counted failed = failed
  failed-before (Some slot) counted failed = reading_failed_before failed counted

  -- what was decided is put out
  ends-with : (outcome : Outcome S) → IsCalledFor counts steady seen 0 inputs Calls outcome before between
      → counts between ≡ with_unread outcome.unread (counts before)
      → OnlyReads 0 (0 + length inputs) (seen before) (seen between)
      → CountsFaults counts steady before between → length outcome.texts ≤ length outputs
      → PutsOut counts steady seen faults outputs outcome.texts outcome.report outcome.status between after
      answer
      → RunEnds counts steady seen faults inputs outputs Calls before after answer
  ends-with outcome came own only counted room puts = inl (record {
    outcome = outcome;
    came = record {
      contents = came.contents;
      held = each-held outcome.opened outcome.unread (seen before) (seen between) (seen before) (seen after)
          (λ one content. holds-kept outcome.opened outcome.unread one content
          (seen before) (seen between) (seen after) puts.inputs)
          inputs came.contents came.held;
      called = came.called;
      failed = failed-before outcome.unread puts.counted came.failed;
      from = came.from;
      reach = λ slot out. kept-twice (seen before) (seen between) (seen after) slot (came.reach slot out)
          (puts.inputs slot);
    };
    ends = by puts.ends;
    untouched = λ slot far. puts.untouched slot far ∙ only.outputs slot;
    room = room;
  })
    where
      stop : IsStop counts steady faults None between after answer
          → IsStop counts steady faults outcome.unread before after answer
      stop (inl fault) = inl (fault.0, writing_failed_later counted fault.1, fault.2 ∙ ap write_counted own)
      stop (inr wanting) = inr (wanting.0, wanting.1 ∙ own)

      by : IsPutOut counts steady seen faults outputs outcome.texts outcome.report outcome.status None between
          after answer ⊎ IsCutOff counts steady seen faults outputs outcome.texts outcome.report
          outcome.status None between after answer
          → IsPutOut counts steady seen faults outputs outcome.texts outcome.report outcome.status
          outcome.unread before after answer
          ⊎ IsCutOff counts steady seen faults outputs outcome.texts outcome.report outcome.status
          outcome.unread before after answer
      by (inl put) = inl (record {
        left = nothing-then (seen before) (seen between) (seen after) outputs outcome.texts outcome.report
            only.files only.said put.left;
        closed = put.closed;
        stands = put.stands;
        own = put.own ∙ own;
      })
      by (inr cut) = inr (record {
        begun = cut.begun;
        more = cut.more;
        is_begun = cut.is_begun;
        left = nothing-then (seen before) (seen between) (seen after) outputs cut.begun cut.more only.files
            only.said cut.left;
        cause = stop cut.cause;
      })

  pub run-ends : (d : Decision S T)
      → Decides counts steady seen text_of faults 0 inputs Calls before between d → HasRoom outputs d
      → Concludes counts steady seen text_of faults outputs between after answer d
      → RunEnds counts steady seen faults inputs outputs Calls before after answer
  run-ends (decision.Prepared prepared) decided room puts =
      ends-with (outcome_of text_of decided.shows.0 prepared) decided.shows.1 decided.shows.2 decided.only
      decided.counted (omega (arith, room.0, length-map prepared.texts.items text_of)) puts
  run-ends (decision.Unread slot) decided room puts =
      ends-with (unread faults slot) decided.shows.0 decided.shows.1 decided.only decided.counted
      (omega arith) puts
  run-ends decision.NoMemory decided room wanting = inr (record {
    wanting = wanting.0;
    only =
        let same : 0 + length inputs ≡ length inputs = omega arith in
        subst (λ d. OnlyReads 0 (length inputs) (seen before) (seen d)) (sym wanting.1)
        (subst (λ last. OnlyReads 0 last (seen before) (seen between)) same decided.only);
    own = ap counts wanting.1 ∙ decided.shows;
  })
