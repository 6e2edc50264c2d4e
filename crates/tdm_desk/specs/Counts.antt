-- The counts of a desk's faults, and what may be known of them over any number of its calls.
use Rattle.std.specs.Prelude.{◌≡◌, ℕ, ◌+◌, ◌-◌, ◌^◌, ◌≤◌, min, nat_lt, if◌then◌else◌, Result, Ok, Err, refl}
use Rattle.std.specs.Coded.{Coded, code_by, coded×, coded_ℕ}
use Rattle.tdm_desk.specs.declared.calls.DeskFault.{DeskFault}
use Rattle.tdm_desk.specs.declared.calls.DeskFault.TheVariants.{Failed, NoMemory}
use Rattle.tdm_desk.specs.declared.slots.InSlot.{InSlot}
use Rattle.tdm_desk.specs.declared.slots.Slots.{Slots}
use Rattle.tdm_desk.specs.Slots.{at, put, input_place, slots_code}

-- how many faults there were so far: of each input, and of all that is written or said
pub record Counts : Type 0 where
  pub reading : Slots ℕ
  pub writing : ℕ

-- the faults of one input
unfoldable pub read_faults : InSlot → Counts → ℕ
read_faults slot counts = at (input_place slot) counts.reading

-- the faults of all that is written or said
unfoldable pub write_faults : Counts → ℕ
write_faults counts = counts.writing

-- the counts with another number of faults of one input
unfoldable pub with_read_faults : InSlot → ℕ → Counts → Counts
with_read_faults slot faults counts = record counts { reading = put (input_place slot) faults counts.reading }

-- the counts with another number of faults of all that is written or said
unfoldable pub with_write_faults : ℕ → Counts → Counts
with_write_faults faults counts = record counts { writing = faults }

-- no fault was ever counted
abbrev pub no_faults : Counts
no_faults = record { reading = record { first = 0; second = 0; third = 0 }; writing = 0 }

-- where a count stops: it is kept in 64 bits
unfoldable pub last_count : ℕ
last_count = 2 ^ 64 - 1

-- a count is greater than it was, or stands where it stops
abbrev pub Rose : ℕ → ℕ → Type 0
Rose before after = min (before + 1) last_count ≤ after

-- one more, or the same where a count stops
unfoldable pub one_more : ℕ → ℕ
one_more faults = if nat_lt faults last_count then faults + 1 else faults

-- the counts with one more fault of an input
unfoldable pub read_counted : InSlot → Counts → Counts
read_counted slot counts = with_read_faults slot (one_more (read_faults slot counts)) counts

-- the counts with one more fault of what is written or said
unfoldable pub write_counted : Counts → Counts
write_counted counts = with_write_faults (one_more (write_faults counts)) counts

module _ {D : Type 0} (counts : D → Counts) (steady : D → Type 0) where
  -- from one state of a desk to a later one: no count fell, and a steady desk stayed steady and kept its
  -- counts
  pub record CountsFaults (before after : D) : Type 0 where
    pub reading_kept : (slot : InSlot) → read_faults slot (counts before) ≤ read_faults slot (counts after)
    pub writing_kept : write_faults (counts before) ≤ write_faults (counts after)
    pub steady_stays : steady before → steady after
    pub steady_counts : steady before → counts after ≡ counts before

  -- a fault of an input is shown by its count, and the desk was not steady
  pub record ReadingFailed (slot : InSlot) (before after : D) : Type 0 where
    pub rose : Rose (read_faults slot (counts before)) (read_faults slot (counts after))
    pub unsteady : ¬ steady before

  -- a fault of what is written or said is shown by its count, and the desk was not steady
  pub record WritingFailed (before after : D) : Type 0 where
    pub rose : Rose (write_faults (counts before)) (write_faults (counts after))
    pub unsteady : ¬ steady before

module _ {D : Type 0} (counts : D → Counts) where
  -- a fault of an input was counted once and changed no other count, and want of memory changed none
  abbrev pub CountsReadFault : InSlot → DeskFault → D → D → Type 0
  CountsReadFault slot NoMemory before after = counts after ≡ counts before
  CountsReadFault slot Failed before after = counts after ≡ read_counted slot (counts before)

  -- the same of a call that answers, where every count stands if there was no fault
  abbrev pub CountsOnlyReading : {A : Type 0} → InSlot → Result A DeskFault → D → D → Type 0
  CountsOnlyReading slot (Ok answer) before after = counts after ≡ counts before
  CountsOnlyReading slot (Err fault) before after = CountsReadFault slot fault before after

  -- a fault of what is written or said was counted once and changed no other count, and want of memory
  -- changed none
  abbrev pub CountsWriteFault : DeskFault → D → D → Type 0
  CountsWriteFault NoMemory before after = counts after ≡ counts before
  CountsWriteFault Failed before after = counts after ≡ write_counted (counts before)

  -- the same of a call that answers, where every count stands if there was no fault
  abbrev pub CountsOnlyWriting : {A : Type 0} → Result A DeskFault → D → D → Type 0
  CountsOnlyWriting (Ok answer) before after = counts after ≡ counts before
  CountsOnlyWriting (Err fault) before after = CountsWriteFault fault before after

-- counts are stored as a pair of those of reading and that of writing
abbrev pub counts_code : Coded Counts
counts_code =
    code_by (Slots ℕ × ℕ) (coded× (slots_code coded_ℕ) coded_ℕ) (λ c. (c.reading, c.writing))
    (λ p. record { reading = p.0; writing = p.1 }) (λ _. refl)
