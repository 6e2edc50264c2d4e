-- What it shows that a reader was fed an input.
use Rattle.std.specs.Prelude.{◌≡◌, ℕ, ◌+◌, ◌++◌, ◌≤◌, length, take, Option, Some}
use Rattle.std.specs.Option.{ForSome}
use Rattle.std.specs.FinMap.{get}
use Rattle.tdm_desk.specs.declared.slots.InSlot.{InSlot}
use Rattle.tdm_desk.specs.Files.{Bytes, Name}
use Rattle.tdm_desk.specs.Seen.{Seen, files_of}
use Rattle.command_run.specs.Slots.{WasRead}

-- a reader stands at the first bytes of what an input still gave, as many as these, or all that it gave
pub record IsFed {R : Type 0} (is_at : R → Bytes → Type 0) (reader : R) (count : ℕ)
    (rest : Option Bytes) : Type 0 where
  pub fed : Bytes
  pub stands : is_at reader fed
  pub short : length fed ≤ count
  pub front : ForSome rest (λ all. fed ≡ take count all)

-- a reader stands at some bytes and this many more, which an input gave next
pub record HasMore {R : Type 0} (is_at : R → Bytes → Type 0) (reader : R) (before : Bytes) (count : ℕ)
    (rest : Option Bytes) : Type 0 where
  pub piece : Bytes
  pub stands : is_at reader (before ++ piece)
  pub many : length piece ≡ count
  pub next : ForSome rest (λ all. piece ≡ take count all)

-- the file of this name is there and holds some bytes, of which the reader stands at the first up to one past
-- the limit
pub record FilledFrom {R : Type 0} (is_at : R → Bytes → Type 0) (reader : R) (slot : InSlot) (name : Name)
    (limit : ℕ) (before after : Seen) : Type 0 where
  pub bytes : Bytes
  pub held : ForSome (files_of before) (λ files. get files name ≡ Some bytes)
  pub stands : is_at reader (take (limit + 1) bytes)
  pub through : WasRead slot limit name before after
