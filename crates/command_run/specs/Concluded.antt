-- How what was decided is put out.
use Rattle.std.specs.Prelude.{◌≡◌, ◌≤◌, List, [], length, map}
use Rattle.tdm_desk.specs.Files.{Bytes, Name}
use Rattle.tdm_desk.specs.Seen.{Seen}
use Rattle.tdm_desk.specs.Counts.{Counts}
use Rattle.command_run.specs.declared.outcome.Decision.{Decision}
use Rattle.command_run.specs.declared.outcome.Decision.TheVariants.{Prepared, Unread, NoMemory}
use Rattle.command_run.specs.Slots.{place}
use Rattle.command_run.specs.Reports.{read_fault_report}
use Rattle.command_run.specs.Outcome.{Faults}
use Rattle.command_run.specs.Outputs.{PutsOut}

-- there are no more texts than outputs, and no more than three
abbrev pub HasRoom : {S T : Type 0} → List Name → Decision S T → Type 0
HasRoom outputs (Prepared prepared) =
    (length prepared.texts.items ≤ length outputs) × (length prepared.texts.items ≤ 3)
HasRoom outputs (Unread slot) = Unit {0}
HasRoom outputs NoMemory = Unit {0}

-- what was decided is put out, or it is said which input could not be read, or nothing is
abbrev pub Concludes : {D : Type 0} → (D → Counts) → (D → Type 0) → (D → Seen) → {S T : Type 0} → (T → Bytes)
    → Faults S → List Name → D → D → S → Decision S T → Type 0
Concludes counts steady seen text faults outputs before after answer (Prepared prepared) =
    PutsOut counts steady seen faults outputs
    (map text prepared.texts.items) prepared.report.items prepared.status before after answer
Concludes counts steady seen text faults outputs before after answer (Unread slot) =
    PutsOut counts steady seen faults outputs
    [] (read_fault_report (place slot)) faults.read_fault before after answer
Concludes counts steady seen text faults outputs before after answer NoMemory =
    (answer ≡ faults.out_of_memory) × (after ≡ before)
