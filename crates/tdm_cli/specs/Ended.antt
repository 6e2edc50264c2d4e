-- How the end of a run shows in the desk and in its status, whatever was asked for.
use Rattle.std.specs.Prelude.{◌≡◌, ◌≢◌, ◌⊎◌, ◌++◌, ◌<◌, ◌≤◌, List, [], ◌∷◌, length, IsTrue, option_map}
use Rattle.std.specs.Option.{ForSome}
use Rattle.tdm_desk.specs.declared.slots.InSlot.{InSlot}
use Rattle.tdm_desk.specs.Files.{Files}
use Rattle.tdm_desk.specs.Seen.{Seen, files_of, said_of, rest_of, input_is_open}
use Rattle.tdm_desk.specs.Counts.{Counts, ReadingFailed, WritingFailed, read_counted, read_faults, write_faults}
use Rattle.command_run.specs.Slots.{place, KeepsInputsBut, KeepsOutputs, KeepsOutputsBehind, AreClosed}
use Rattle.command_run.specs.Inputs.{Input}
use Rattle.command_run.specs.Reports.{read_fault_report}
use Rattle.tdm_cli.specs.declared.status.Status.{Status}
use Rattle.tdm_cli.specs.declared.status.Status.TheVariants as status
use Rattle.tdm_cli.specs.Request.{Request, inputs_of, outputs_of}
use Rattle.tdm_cli.specs.Asked.{StatusFor, IsOutsideFault}

-- the answer is the status that the files call for, unless a fault of the outside or want of memory comes in;
-- where neither reading nor writing failed, it is that status or want of memory
pub record IsAsCalled {D : Type 0} (counts : D → Counts) (steady : D → Type 0) (request : Request)
    (files : Files) (before after : D) (answer : Status) : Type 0 where
  pub cause : IsOutsideFault answer ⊎ StatusFor request files answer
  pub exact : (called : Status) → StatusFor request files called → (answer ≡ called) ⊎ IsOutsideFault answer
  pub complete : (called : Status) → StatusFor request files called
      → ((slot : InSlot) → place slot ≤ length (inputs_of request)
      → ¬ ReadingFailed counts steady slot before after)
      → ¬ WritingFailed counts steady before after → (answer ≡ called) ⊎ (answer ≡ status.OutOfMemory)

-- no file was changed, and every output is as it was
pub record WritesNothing (before after : Seen) : Type 0 where
  pub files : files_of after ≡ files_of before
  pub outputs : KeepsOutputs before after

-- all inputs and outputs but those of the request are as they were; no file was changed where it has no
-- outputs, and nothing written where the answer is another than Ok, WriteFault and OutOfMemory
pub record TouchesOnly (request : Request) (before after : Seen) (answer : Status) : Type 0 where
  pub inputs : KeepsInputsBut 0 (length (inputs_of request)) before after
  pub outputs : KeepsOutputsBehind (length (outputs_of request)) before after
  pub kept : outputs_of request ≡ [] → files_of after ≡ files_of before
  pub writes : answer ≢ status.Ok → answer ≢ status.WriteFault → answer ≢ status.OutOfMemory
      → WritesNothing before after

-- this input is open, and where the desk tells its bytes, it was read to its end
pub record IsReadOut (seen : Seen) (slot : InSlot) : Type 0 where
  pub is_open : IsTrue (input_is_open slot seen)
  pub empty : ForSome (rest_of slot seen) (λ rest. rest ≡ [])

-- each of these inputs was read to its end
abbrev pub AreReadOut : Seen → List Input → Type 0
AreReadOut seen [] = Unit {0}
AreReadOut seen (input ∷ inputs) = IsReadOut seen input.slot × AreReadOut seen inputs

-- each input was read to its end, and each output is closed
pub record IsFinished (request : Request) (seen : Seen) : Type 0 where
  pub read : AreReadOut seen (inputs_of request)
  pub closed : AreClosed (length (outputs_of request)) seen

-- where a count rose, the answer tells it: of writing as such, of reading unless writing failed or memory was
-- wanting behind it; at a status of the command's own none rose
pub record TellsFaults {D : Type 0} (counts : D → Counts) (before after : D) (answer : Status) : Type 0 where
  pub writing : write_faults (counts before) < write_faults (counts after) → answer ≡ status.WriteFault
  pub reading : (slot : InSlot) → read_faults slot (counts before) < read_faults slot (counts after)
      → IsOutsideFault answer
  pub uncounted : ¬ IsOutsideFault answer → counts after ≡ counts before

-- an input of the request failed and was counted once, no other count rose, and it was reported
pub record ReportsReadFault {D : Type 0} (counts : D → Counts) (steady : D → Type 0) (seen : D
    → Seen) (request : Request) (before after : D) : Type 0 where
  pub slot : InSlot
  pub asked : place slot ≤ length (inputs_of request)
  pub failed : ReadingFailed counts steady slot before after
  pub own : counts after ≡ read_counted slot (counts before)
  pub said : said_of (seen after) ≡ option_map (λ s. s ++ read_fault_report (place slot))
      (said_of (seen before))
