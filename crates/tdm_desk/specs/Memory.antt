-- What a desk in memory holds, and what is seen of it.
use Rattle.std.specs.Prelude.{[], Option, Some, None, is_some, unwrap_or, refl}
use Rattle.std.specs.FinMap.{empty}
use Rattle.std.specs.FinMap as map
use Rattle.std.specs.Coded.{Coded, code_by, coded×, coded_ℕ, coded_list, coded_option}
use Rattle.tdm_desk.specs.declared.slots.Slots.{Slots}
use Rattle.tdm_desk.specs.Slots.{map_slots, slots_code}
use Rattle.tdm_desk.specs.Files.{Bytes, Name, Files}
use Rattle.tdm_desk.specs.Seen.{Seen}

-- its files, what each open input still gives, the name of each open output, and what was said
pub record Memory : Type 0 where
  pub files : Files
  pub inputs : Slots (Option Bytes)
  pub outputs : Slots (Option Name)
  pub said : Bytes

-- nothing at any place
abbrev pub nowhere : {A : Type 0} → Slots (Option A)
nowhere = record { first = None; second = None; third = None }

-- no files, no open slot, nothing said
abbrev pub empty_memory : Memory
empty_memory = record { files = empty; inputs = nowhere; outputs = nowhere; said = [] }

-- a desk in memory tells all that it holds
unfoldable pub seen_in_memory : Memory → Seen
seen_in_memory m = record {
  inputs = map_slots is_some m.inputs;
  outputs = map_slots is_some m.outputs;
  told = Some (record {
    files = m.files;
    rests = map_slots (λ rest. unwrap_or rest []) m.inputs;
    names = m.outputs;
    said = m.said;
  });
}

-- what a desk in memory holds is stored as pairs of its parts
abbrev pub memory_code : Coded Memory
memory_code =
    code_by (Files × (Slots (Option Bytes) × (Slots (Option Name) × Bytes)))
    (coded× (map.code (coded_list coded_ℕ) (coded_list coded_ℕ))
    (coded× (slots_code (coded_option (coded_list coded_ℕ)))
    (coded× (slots_code (coded_option (coded_list coded_ℕ))) (coded_list coded_ℕ))))
    (λ m. (m.files, (m.inputs, (m.outputs, m.said))))
    (λ p. record { files = p.0; inputs = p.1.0; outputs = p.1.1.0; said = p.1.1.1 }) (λ _. refl)
