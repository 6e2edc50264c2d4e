-- What is seen of a desk, and what each of its calls does to that.
use Rattle.std.specs.Prelude.{◌≡◌, ℕ, ◌<◌, length, Bool, true, false, [], ◌++◌, Option, Some, None, take, drop, option_map}
use Rattle.tdm_desk.specs.declared.slots.InSlot.{InSlot}
use Rattle.tdm_desk.specs.declared.slots.OutSlot.{OutSlot}
use Rattle.tdm_desk.specs.declared.slots.Slots.{Slots}
use Rattle.tdm_desk.specs.Slots.{at, put, input_place, output_place}
use Rattle.tdm_desk.specs.Files.{Bytes, Name, Files, bytes_under, with_file, with_more}

-- what a desk tells that tells its bytes
pub record Told : Type 0 where
  -- all files
  pub files : Files
  -- what each open input still gives, and nothing at a closed one
  pub rests : Slots Bytes
  -- the name of each output that is created and not finished
  pub names : Slots (Option Name)
  -- the bytes said so far
  pub said : Bytes

-- what is seen of any desk: which slots are open, and what it tells, if it does
pub record Seen : Type 0 where
  pub inputs : Slots Bool
  pub outputs : Slots Bool
  pub told : Option Told

-- ---- what each call does

-- an input is open, and still gives all that the file of this name holds
unfoldable pub opened : InSlot → Name → Seen → Seen
opened slot name s = record {
  inputs = put (input_place slot) true s.inputs;
  outputs = s.outputs;
  told = option_map (λ (t : Told). record t {
    rests = put (input_place slot) (bytes_under name t.files) t.rests;
  }) s.told;
}

-- an input is closed
unfoldable pub input_closed : InSlot → Seen → Seen
input_closed slot s = record {
  inputs = put (input_place slot) false s.inputs;
  outputs = s.outputs;
  told = option_map (λ (t : Told). record t { rests = put (input_place slot) [] t.rests }) s.told;
}

-- an input has given so many more bytes
unfoldable pub taken : InSlot → ℕ → Seen → Seen
taken slot count s = record s {
  told = option_map (λ (t : Told). record t {
    rests = put (input_place slot) (drop count (at (input_place slot) t.rests)) t.rests;
  }) s.told;
}

-- an output is open on the file of this name, which is empty
unfoldable pub created : OutSlot → Name → Seen → Seen
created slot name s = record {
  inputs = s.inputs;
  outputs = put (output_place slot) true s.outputs;
  told = option_map (λ (t : Told). record t {
    files = with_file name [] t.files;
    names = put (output_place slot) (Some name) t.names;
  }) s.told;
}

-- an output is closed
unfoldable pub output_closed : OutSlot → Seen → Seen
output_closed slot s = record {
  inputs = s.inputs;
  outputs = put (output_place slot) false s.outputs;
  told = option_map (λ (t : Told). record t { names = put (output_place slot) None t.names }) s.told;
}

-- the files, where an output's file, if it is open, has more bytes
unfoldable pub with_output : Option Name → Bytes → Files → Files
with_output None more files = files
with_output (Some name) more files = with_more name more files

-- these bytes are added to the file of an open output
unfoldable pub written : OutSlot → Bytes → Seen → Seen
written slot bytes s = record s {
  told = option_map (λ (t : Told). record t {
    files = with_output (at (output_place slot) t.names) bytes t.files;
  }) s.told;
}

-- these bytes are said
unfoldable pub said : Bytes → Seen → Seen
said bytes s = record s {
  told = option_map (λ (t : Told). record t { said = t.said ++ bytes }) s.told;
}

-- ---- what callers ask

-- whether an input is open
unfoldable pub input_is_open : InSlot → Seen → Bool
input_is_open slot s = at (input_place slot) s.inputs

-- whether an output is open
unfoldable pub output_is_open : OutSlot → Seen → Bool
output_is_open slot s = at (output_place slot) s.outputs

-- all files, where the desk tells
unfoldable pub files_of : Seen → Option Files
files_of s = option_map (λ (t : Told). t.files) s.told

-- what an input still gives, where the desk tells
unfoldable pub rest_of : InSlot → Seen → Option Bytes
rest_of slot s = option_map (λ (t : Told). at (input_place slot) t.rests) s.told

-- what was said so far, where the desk tells
unfoldable pub said_of : Seen → Option Bytes
said_of s = option_map (λ (t : Told). t.said) s.told

-- ---- where a call of several steps stopped

-- an input has given some bytes, which may be none
abbrev pub SomeTaken : InSlot → Seen → Seen → Type 0
SomeTaken slot before after = (count : ℕ) × (after ≡ taken slot count before)

-- a prefix of these bytes was written, which may be empty
abbrev pub PrefixWritten : OutSlot → Bytes → Seen → Seen → Type 0
PrefixWritten slot bytes before after = (count : ℕ) × (after ≡ written slot (take count bytes) before)

-- a prefix of these bytes was said, which may be empty, and not all of them
abbrev pub PrefixSaid : Bytes → Seen → Seen → Type 0
PrefixSaid bytes before after = (count : ℕ) × (count < length bytes)
    × (after ≡ said (take count bytes) before)
