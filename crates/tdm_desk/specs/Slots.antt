-- Three places, the value at one of them, and a change of one of them.
use Rattle.std.specs.Prelude.{refl}
use Rattle.std.specs.Coded.{Coded, code_by, coded×}
use Rattle.tdm_desk.specs.declared.slots.InSlot.{InSlot}
use Rattle.tdm_desk.specs.declared.slots.InSlot.TheVariants.{In0, In1, In2}
use Rattle.tdm_desk.specs.declared.slots.OutSlot.{OutSlot}
use Rattle.tdm_desk.specs.declared.slots.OutSlot.TheVariants.{Out0, Out1, Out2}
use Rattle.tdm_desk.specs.declared.slots.Place.{Place}
use Rattle.tdm_desk.specs.declared.slots.Place.TheVariants.{First, Second, Third}
use Rattle.tdm_desk.specs.declared.slots.Slots.{Slots}

-- the place of an input
unfoldable pub input_place : InSlot → Place
input_place In0 = First
input_place In1 = Second
input_place In2 = Third

-- the place of an output
unfoldable pub output_place : OutSlot → Place
output_place Out0 = First
output_place Out1 = Second
output_place Out2 = Third

module _ {A : Type 0} where
  -- what stands at a place
  unfoldable pub at : Place → Slots A → A
  at First s = s.first
  at Second s = s.second
  at Third s = s.third

  -- the same with another value at one place
  unfoldable pub put : Place → A → Slots A → Slots A
  put First a s = record s { first = a }
  put Second a s = record s { second = a }
  put Third a s = record s { third = a }

-- a function of what stands at each place
abbrev pub map_slots : {A B : Type 0} → (A → B) → Slots A → Slots B
map_slots f s = record { first = f s.first; second = f s.second; third = f s.third }

-- three values are stored as a pair of one and the two others
abbrev pub slots_code : {A : Type 0} → Coded A → Coded (Slots A)
slots_code {A} code =
    code_by (A × (A × A)) (coded× code (coded× code code)) (λ s. (s.first, (s.second, s.third)))
    (λ p. record { first = p.0; second = p.1.0; third = p.1.1 }) (λ _. refl)
