-- What is known once the inputs decided, or could not be read.
use Rattle.std.specs.Prelude.{◌≡◌, ℕ, ◌+◌, ◌-◌, ◌≤◌, List, [], length, Some, None, Ok}
use Rattle.std.specs.Option.{ForSome}
use Rattle.std.specs.FinMap.{get}
use Rattle.tdm_desk.specs.Files.{Bytes}
use Rattle.tdm_desk.specs.Seen.{Seen, files_of, said_of}
use Rattle.tdm_desk.specs.Counts.{Counts, CountsFaults, ReadingFailed, read_counted}
use Rattle.command_run.specs.declared.outcome.Decision.{Decision}
use Rattle.command_run.specs.declared.outcome.Decision.TheVariants as decision
use Rattle.command_run.specs.declared.outcome.Prepared.{Prepared}
use Rattle.command_run.specs.Slots.{place, KeepsInputsBut, KeepsOutputs, WasRead}
use Rattle.command_run.specs.Outcome.{Faults, Outcome, outcome_of, HasFailed}
use Rattle.command_run.specs.Inputs.{Input, Content, Holds, HoldEach, TextKind, unread, FromInput}

-- no file changed, nothing was said, and of all slots only inputs behind the first place and up to the last
-- were touched
pub record OnlyReads (first last : ℕ) (before after : Seen) : Type 0 where
  pub files : files_of after ≡ files_of before
  pub said : said_of after ≡ said_of before
  pub inputs : KeepsInputsBut first last before after
  pub outputs : KeepsOutputs before after

-- what the inputs hold calls for this outcome, for which they were read as far as it tells and no further
pub record IsCalledFor {D S : Type 0} (counts : D → Counts) (steady : D → Type 0) (seen : D
    → Seen) (first : ℕ) (inputs : List Input) (Calls : List Content → Outcome S
    → Type 0) (outcome : Outcome S) (before after : D) : Type 0 where
  pub contents : List Content
  pub held : HoldEach outcome.opened outcome.unread inputs contents (seen before) (seen after)
  pub called : Calls contents outcome
  pub failed : HasFailed counts steady outcome.unread before after
  pub from : first ≤ outcome.opened
  pub reach : KeepsInputsBut first outcome.opened (seen before) (seen after)

module _ {D : Type 0} (counts : D → Counts) (steady : D → Type 0) (seen : D → Seen) {S T : Type 0} (text : T
    → Bytes) (faults : Faults S) (first : ℕ) (inputs : List Input) (Calls : List Content → Outcome S
    → Type 0) (before after : D) where
  -- what each decision shows: no count rose but that of an input that could not be read, by one
  abbrev pub DecisionShows : Decision S T → Type 0
  DecisionShows (decision.Prepared prepared) = (opened : ℕ)
      × IsCalledFor counts steady seen first inputs Calls (outcome_of text opened prepared) before after
      × (counts after ≡ counts before)
  DecisionShows (decision.Unread slot) =
      IsCalledFor counts steady seen first inputs Calls (unread faults slot) before after
      × (counts after ≡ read_counted slot (counts before))
  DecisionShows decision.NoMemory = counts after ≡ counts before

  -- the inputs were read in order, as far as needed, and came to this decision
  pub record Decides (decision : Decision S T) : Type 0 where
    pub shows : DecisionShows decision
    pub only : OnlyReads first (first + length inputs) (seen before) (seen after)
    pub counted : CountsFaults counts steady before after

module _ {D : Type 0} (counts : D → Counts) (seen : D → Seen) {S V R : Type 0} (kind : TextKind S V R)
    (input : Input) where
  -- an input was read through, and says this value
  pub record Had (value : V) (before after : D) : Type 0 where
    pub bytes : Bytes
    pub held : ForSome (files_of (seen before)) (λ files. get files input.name ≡ Some bytes)
    pub says : kind.says bytes ≡ Ok value
    pub through : WasRead input.slot input.limit input.name (seen before) (seen after)
    pub only : OnlyReads (place input.slot - 1) (place input.slot) (seen before) (seen after)
    pub own : counts after ≡ counts before

module _ {D : Type 0} (counts : D → Counts) (steady : D → Type 0) (seen : D → Seen) {S T : Type 0} (text : T
    → Bytes) (faults : Faults S) {V R : Type 0} (kind : TextKind S V R) (input : Input)
    (before after : D) where
  -- this input decides by itself, since it is missing or its text is refused
  pub record DecidesItself (prepared : Prepared S T) : Type 0 where
    pub content : Content
    pub held : Holds (place input.slot) None input content (seen before) (seen after)
    pub called : FromInput faults input.slot kind content (λ value outcome. ⊥)
        (outcome_of text (place input.slot) prepared)
    pub own : counts after ≡ counts before

  -- what each decision that comes before the value is had shows
  abbrev pub EarlyShows : Decision S T → Type 0
  EarlyShows (decision.Prepared prepared) = DecidesItself prepared
  EarlyShows (decision.Unread slot) = (slot ≡ input.slot) × ReadingFailed counts steady slot before after
      × (counts after ≡ read_counted slot (counts before))
  EarlyShows decision.NoMemory = counts after ≡ counts before

  -- this input came to the decision, and no other was touched
  pub record DecidesEarly (decision : Decision S T) : Type 0 where
    pub shows : EarlyShows decision
    pub only : OnlyReads (place input.slot - 1) (place input.slot) (seen before) (seen after)

-- an outcome without texts, with this status and report
abbrev pub IsSaid : {S T : Type 0} → S → Bytes → Decision S T → Type 0
IsSaid status report (decision.Prepared prepared) =
    (prepared.status ≡ status) × (prepared.report.items ≡ report) × (prepared.texts.items ≡ [])
IsSaid status report (decision.Unread slot) = ⊥
IsSaid status report decision.NoMemory = ⊥
