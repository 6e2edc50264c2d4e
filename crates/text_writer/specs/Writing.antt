-- A text on its way to an output: its front is written, and the rest is pending.
use Rattle.std.specs.Prelude.{◌≡◌, ℕ, List, [], ◌∷◌, ◌++◌, Result, Ok, Err}
use Rattle.std.specs.List.{flat_map}
use Rattle.tdm_desk.specs.declared.slots.OutSlot.{OutSlot}
use Rattle.tdm_desk.specs.Files.{Bytes}
use Rattle.tdm_desk.specs.Seen.{Seen, written, PrefixWritten}
use Rattle.tdm_lines.specs.Digits.{digits}
use Rattle.tdm_desk.specs.declared.calls.DeskFault.{DeskFault}
use Rattle.tdm_desk.specs.declared.calls.DeskFault.TheVariants.{Failed}
use Rattle.tdm_desk.specs.Counts.{Counts, CountsFaults, CountsWriteFault, WritingFailed}

-- a number in decimal, and a byte behind it
abbrev pub number_then : ℕ → ℕ → Bytes
number_then number end = digits number ++ end ∷ []

-- each of the numbers, and behind each the same byte
abbrev pub numbers_then : ℕ → List ℕ → Bytes
numbers_then end numbers = flat_map (λ number. number_then number end) numbers

-- of the text a front was written, and the rest is pending
pub record IsUnderWay (slot : OutSlot) (text : Bytes) (before : Seen) (pending : Bytes)
    (after : Seen) : Type 0 where
  pub front : Bytes
  pub whole : front ++ pending ≡ text
  pub is : after ≡ written slot front before

module _ {D : Type 0} (seen : D → Seen) (counts : D → Counts) (steady : D → Type 0) (slot : OutSlot) where
  -- a text was added without a fault: of what was pending and of it a front is written, and the rest pending
  pub record Brings (text pending : Bytes) (before : D) (later : Bytes) (after : D) : Type 0 where
    pub way : IsUnderWay slot (pending ++ text) (seen before) later (seen after)
    pub counted : CountsFaults counts steady before after
    pub uncounted : counts after ≡ counts before

  -- a fault, which was counted: of what was pending and of the text a prefix is written, and nothing pending
  pub record Stops (text pending : Bytes) (fault : DeskFault) (before : D) (later : Bytes)
      (after : D) : Type 0 where
    pub prefix : PrefixWritten slot (pending ++ text) (seen before) (seen after)
    pub emptied : later ≡ []
    pub counted : CountsFaults counts steady before after
    pub own : CountsWriteFault counts fault before after
    pub failed : fault ≡ Failed → WritingFailed counts steady before after

  -- what a call that adds a text to what is pending leads to, by its answer
  abbrev pub Adds : {A : Type 0} (text pending : Bytes) (before : D) (later : Bytes) (after : D)
      → Result A DeskFault → Type 0
  Adds text pending before later after (Ok answer) = Brings text pending before later after
  Adds text pending before later after (Err fault) = Stops text pending fault before later after
