-- What is known of a desk of real files: its counts, and which slots are open.
use Rattle.std.specs.Prelude.{Bool, false, None, refl}
use Rattle.std.specs.Coded.{Coded, code_by, coded×, coded_bool}
use Rattle.tdm_desk.specs.declared.slots.Slots.{Slots}
use Rattle.tdm_desk.specs.Slots.{slots_code}
use Rattle.tdm_desk.specs.Seen.{Seen}
use Rattle.tdm_desk.specs.Counts.{Counts, counts_code, no_faults}

-- its counts of faults, and whether a file is open at each place
pub record RealDesk : Type 0 where
  pub counts : Counts
  pub inputs : Slots Bool
  pub outputs : Slots Bool

-- no fault and no open slot
abbrev pub untouched : RealDesk
untouched = record {
  counts = no_faults;
  inputs = record { first = false; second = false; third = false };
  outputs = record { first = false; second = false; third = false };
}

-- it tells none of its bytes
unfoldable pub seen_of_real : RealDesk → Seen
seen_of_real desk = record { inputs = desk.inputs; outputs = desk.outputs; told = None }

-- its counts of faults
abbrev pub counts_of_real : RealDesk → Counts
counts_of_real desk = desk.counts

-- it is never steady
abbrev pub never : RealDesk → Type 0
never _ = ⊥

-- what is known of a desk of real files is stored as pairs of its parts
abbrev pub real_desk_code : Coded RealDesk
real_desk_code =
    code_by (Counts × (Slots Bool × Slots Bool))
    (coded× counts_code (coded× (slots_code coded_bool) (slots_code coded_bool)))
    (λ d. (d.counts, (d.inputs, d.outputs)))
    (λ p. record { counts = p.0; inputs = p.1.0; outputs = p.1.1 }) (λ _. refl)
