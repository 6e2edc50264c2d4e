-- What a run comes to.
use Rattle.std.specs.Prelude.{ℕ, List, Option, Some, None, map}
use Rattle.tdm_desk.specs.declared.slots.InSlot.{InSlot}
use Rattle.tdm_desk.specs.Files.{Bytes}
use Rattle.tdm_desk.specs.Counts.{Counts, ReadingFailed, read_counted}
use Rattle.command_run.specs.declared.outcome.Prepared.{Prepared}

-- the statuses that runs of all commands have in common
pub record Faults (S : Type 0) : Type 0 where
  pub no_input : S
  pub read_fault : S
  pub write_fault : S
  pub out_of_memory : S

-- how many inputs were opened, the one that could not be read, if one, the status, the report, and the text
-- of each output
pub record Outcome (S : Type 0) : Type 0 where
  pub opened : ℕ
  pub unread : Option InSlot
  pub status : S
  pub report : Bytes
  pub texts : List Bytes

-- the outcome that was prepared after this many inputs were opened
abbrev pub outcome_of : {S T : Type 0} → (T → Bytes) → ℕ → Prepared S T → Outcome S
outcome_of text opened prepared = record {
  opened = opened;
  unread = None;
  status = prepared.status;
  report = prepared.report.items;
  texts = map text prepared.texts.items;
}

-- the counts with one more fault of the input that could not be read, if one
abbrev pub with_unread : Option InSlot → Counts → Counts
with_unread None counts = counts
with_unread (Some slot) counts = read_counted slot counts

-- the input that could not be read, if one, failed
abbrev pub HasFailed : {D : Type 0} → (D → Counts) → (D → Type 0) → Option InSlot → D → D → Type 0
HasFailed counts steady None before after = Unit {0}
HasFailed counts steady (Some slot) before after = ReadingFailed counts steady slot before after
