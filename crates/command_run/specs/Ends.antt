-- How a run of any command ends.
use Rattle.std.specs.Prelude.{◌≡◌, ◌⊎◌, ◌≤◌, List, length}
use Rattle.tdm_desk.specs.Files.{Name}
use Rattle.tdm_desk.specs.Seen.{Seen}
use Rattle.tdm_desk.specs.Counts.{Counts}
use Rattle.command_run.specs.Slots.{KeepsOutputsBehind}
use Rattle.command_run.specs.Outcome.{Outcome, Faults}
use Rattle.command_run.specs.Inputs.{Input, Content}
use Rattle.command_run.specs.Decision.{OnlyReads, IsCalledFor}
use Rattle.command_run.specs.Outputs.{IsPutOut, IsCutOff}

module _ {D S : Type 0} (counts : D → Counts) (steady : D → Type 0) (seen : D → Seen) (faults : Faults S)
    (inputs : List Input) (outputs : List Name) (Calls : List Content → Outcome S
    → Type 0) (before after : D) where
  -- an outcome that the inputs call for was put out, wholly or until writing or saying failed or memory was
  -- wanting
  pub record EndsWith (answer : S) : Type 0 where
    pub outcome : Outcome S
    pub came : IsCalledFor counts steady seen 0 inputs Calls outcome before after
    pub ends : IsPutOut counts steady seen faults outputs outcome.texts outcome.report outcome.status
        outcome.unread before after answer
        ⊎ IsCutOff counts steady seen faults outputs outcome.texts outcome.report outcome.status
        outcome.unread before after answer
    pub untouched : KeepsOutputsBehind (length outcome.texts) (seen before) (seen after)
    pub room : length outcome.texts ≤ length outputs

  -- memory was wanting before there was an outcome: nothing was written or said, and no count rose
  pub record EndsWanting (answer : S) : Type 0 where
    pub wanting : answer ≡ faults.out_of_memory
    pub only : OnlyReads 0 (length inputs) (seen before) (seen after)
    pub own : counts after ≡ counts before

  -- how a run ends, and nothing else ends it
  abbrev pub RunEnds : S → Type 0
  RunEnds answer = EndsWith answer ⊎ EndsWanting answer
