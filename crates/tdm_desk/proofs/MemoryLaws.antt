-- What is seen of a desk in memory after each change of what it holds.
use Rattle.std.proofs.Common.{◌≡◌, ◌<◌, ◌↔◌, min, ◌∷◌, if◌then◌else◌, ℕ, true, [], ◌++◌, refl, sym, ap, ◌∙◌, drop, take, length, arith}
use Rattle.std.specs.Prelude.{Option, Some, None, is_some, unwrap_or}
use Rattle.std.specs.FinMap.{get}
use Rattle.std.proofs.lemmas.List.{take_all}
use Rattle.tdm_desk.specs.declared.slots.InSlot.{InSlot}
use Rattle.tdm_desk.specs.declared.slots.OutSlot.{OutSlot}
use Rattle.tdm_desk.specs.declared.slots.Place.{Place}
use Rattle.tdm_desk.specs.Slots.{at, put, map_slots, input_place, output_place}
use Rattle.tdm_desk.specs.Files.{Bytes, Name, Files, bytes_under, with_file, with_more}
use Rattle.tdm_desk.specs.Seen.{opened, input_closed, taken, created, output_closed, with_output, written, said, input_is_open, output_is_open, files_of, rest_of}
use Rattle.tdm_desk.specs.Memory.{Memory, seen_in_memory}
use Rattle.tdm_desk.proofs.SlotLaws.{put-at, put-put, at-map, map-put}

pub opened_in_memory : (slot : InSlot) (name : Name) (bytes : Bytes) (place : Place) (old new : Memory)
    → place ≡ input_place slot → get old.files name ≡ Some bytes
    → new ≡ record old { inputs = put place (Some bytes) old.inputs }
    → seen_in_memory new ≡ opened slot name (seen_in_memory old)
unfolding seen_in_memory opened bytes_under
opened_in_memory slot name bytes place old new here there is =
    ap seen_in_memory (is ∙ ap (λ p. record old { inputs = put p (Some bytes) old.inputs }) here)
    ∙ (λ i. record {
      inputs = map-put is_some (input_place slot) (Some bytes) old.inputs i;
      outputs = map_slots is_some old.outputs;
      told = Some (record {
        files = old.files;
        rests = (map-put (λ o. unwrap_or o []) (input_place slot) (Some bytes) old.inputs
            ∙ ap (λ b. put (input_place slot) b (map_slots (λ o. unwrap_or o []) old.inputs))
            (ap (λ o. unwrap_or o []) (sym there))) i;
        names = old.outputs;
        said = old.said;
      });
    })

pub closed_in_memory : (slot : InSlot) (place : Place) (old new : Memory) → place ≡ input_place slot
    → new ≡ record old { inputs = put place None old.inputs }
    → seen_in_memory new ≡ input_closed slot (seen_in_memory old)
unfolding seen_in_memory input_closed
closed_in_memory slot place old new here is =
    ap seen_in_memory (is ∙ ap (λ p. record old { inputs = put p None old.inputs }) here)
    ∙ (λ i. record {
      inputs = map-put is_some (input_place slot) None old.inputs i;
      outputs = map_slots is_some old.outputs;
      told = Some (record {
        files = old.files;
        rests = map-put (λ o. unwrap_or o []) (input_place slot) None old.inputs i;
        names = old.outputs;
        said = old.said;
      });
    })

pub taken_in_memory : (slot : InSlot) (count : ℕ) (rest : Bytes) (place : Place) (old new : Memory)
    → place ≡ input_place slot → at place old.inputs ≡ Some rest
    → new ≡ record old { inputs = put place (Some (drop count rest)) old.inputs }
    → seen_in_memory new ≡ taken slot count (seen_in_memory old)
unfolding seen_in_memory taken
taken_in_memory slot count rest place old new here there is =
    ap seen_in_memory (is ∙ ap (λ p. record old { inputs = put p (Some (drop count rest)) old.inputs }) here)
    ∙ (λ i. record {
      inputs = (map-put is_some (input_place slot) (Some (drop count rest)) old.inputs
          ∙ ap (λ b. put (input_place slot) b (map_slots is_some old.inputs))
          (sym (at-map is_some (input_place slot) old.inputs
          ∙ ap is_some (sym (ap (λ p. at p old.inputs) here) ∙ there)))
          ∙ put-at (input_place slot) (map_slots is_some old.inputs)) i;
      outputs = map_slots is_some old.outputs;
      told = Some (record {
        files = old.files;
        rests = (map-put (λ o. unwrap_or o []) (input_place slot) (Some (drop count rest)) old.inputs
            ∙ ap (λ r. put (input_place slot) (drop count r) (map_slots (λ o. unwrap_or o []) old.inputs))
            (sym (at-map (λ o. unwrap_or o []) (input_place slot) old.inputs
            ∙ ap (λ o. unwrap_or o []) (sym (ap (λ p. at p old.inputs) here) ∙ there)))) i;
        names = old.outputs;
        said = old.said;
      });
    })

pub created_in_memory : (slot : OutSlot) (name : Name) (place : Place) (old new : Memory)
    → place ≡ output_place slot
    → new ≡ record old { files = with_file name [] old.files; outputs = put place (Some name) old.outputs }
    → seen_in_memory new ≡ created slot name (seen_in_memory old)
unfolding seen_in_memory created
created_in_memory slot name place old new here is =
    ap seen_in_memory (is
    ∙ ap (λ p. record old {
      files = with_file name [] old.files;
      outputs = put p (Some name) old.outputs;
    }) here)
    ∙ ap (λ o. record {
      inputs = map_slots is_some old.inputs;
      outputs = o;
      told = Some (record {
        files = with_file name [] old.files;
        rests = map_slots (λ o. unwrap_or o []) old.inputs;
        names = put (output_place slot) (Some name) old.outputs;
        said = old.said;
      });
    }) (map-put is_some (output_place slot) (Some name) old.outputs)

pub finished_in_memory : (slot : OutSlot) (place : Place) (old new : Memory) → place ≡ output_place slot
    → new ≡ record old { outputs = put place None old.outputs }
    → seen_in_memory new ≡ output_closed slot (seen_in_memory old)
unfolding seen_in_memory output_closed
finished_in_memory slot place old new here is =
    ap seen_in_memory (is ∙ ap (λ p. record old { outputs = put p None old.outputs }) here)
    ∙ ap (λ o. record {
      inputs = map_slots is_some old.inputs;
      outputs = o;
      told = Some (record {
        files = old.files;
        rests = map_slots (λ o. unwrap_or o []) old.inputs;
        names = put (output_place slot) None old.outputs;
        said = old.said;
      });
    }) (map-put is_some (output_place slot) None old.outputs)

pub written_in_memory : (slot : OutSlot) (bytes : Bytes) (name : Name) (place : Place) (old new : Memory)
    → place ≡ output_place slot → at place old.outputs ≡ Some name
    → new ≡ record old { files = with_more name bytes old.files }
    → seen_in_memory new ≡ written slot bytes (seen_in_memory old)
unfolding seen_in_memory written with_output
written_in_memory slot bytes name place old new here there is =
    ap seen_in_memory is
    ∙ ap (λ o. record {
      inputs = map_slots is_some old.inputs;
      outputs = map_slots is_some old.outputs;
      told = Some (record {
        files = with_output o bytes old.files;
        rests = map_slots (λ o. unwrap_or o []) old.inputs;
        names = old.outputs;
        said = old.said;
      });
    }) (sym there ∙ ap (λ p. at p old.outputs) here)

pub said_in_memory : (bytes : Bytes) (old new : Memory) → new ≡ record old { said = old.said ++ bytes }
    → seen_in_memory new ≡ said bytes (seen_in_memory old)
unfolding seen_in_memory said
said_in_memory bytes old new is = ap seen_in_memory is

-- ---- what the conditions of the calls say of a desk in memory

pub open_input_in_memory : (slot : InSlot) (place : Place) (m : Memory) → place ≡ input_place slot
    → input_is_open slot (seen_in_memory m) ≡ true → is_some (at place m.inputs) ≡ true
unfolding seen_in_memory input_is_open
open_input_in_memory slot place m here is-open = ap (λ p. is_some (at p m.inputs)) here
    ∙ sym (at-map is_some (input_place slot) m.inputs) ∙ is-open

pub open_output_in_memory : (slot : OutSlot) (place : Place) (m : Memory) → place ≡ output_place slot
    → output_is_open slot (seen_in_memory m) ≡ true → is_some (at place m.outputs) ≡ true
unfolding seen_in_memory output_is_open
open_output_in_memory slot place m here is-open = ap (λ p. is_some (at p m.outputs)) here
    ∙ sym (at-map is_some (output_place slot) m.outputs) ∙ is-open

pub files_in_memory : (m : Memory) → files_of (seen_in_memory m) ≡ Some m.files
unfolding seen_in_memory files_of
files_in_memory m = refl

pub rest_in_memory : (slot : InSlot) (place : Place) (rest : Bytes) (m : Memory) → place ≡ input_place slot
    → at place m.inputs ≡ Some rest → rest_of slot (seen_in_memory m) ≡ Some rest
unfolding seen_in_memory rest_of
rest_in_memory slot place rest m here there =
    ap Some (at-map (λ o. unwrap_or o []) (input_place slot) m.inputs
    ∙ ap (λ o. unwrap_or o []) (sym (ap (λ p. at p m.inputs) here) ∙ there))

-- what stands at a place of which it is known that something does
pub value_of : {A : Type 0} (o : Option A) → is_some o ≡ true → (a : A) × (o ≡ Some a)
value_of None is = absurd (cc)
value_of (Some a) is = (a, refl)

-- all of a piece is its first bytes, as many as it has
pub whole : (bytes : Bytes) → bytes ≡ take (length bytes) bytes
whole bytes = sym (take_all (length bytes) bytes (omega arith))

-- ---- the calls of a desk in memory

-- a file was looked up, and what was found is now the input
pub found_in_memory : (slot : InSlot) (name : Name) (place : Place) (input : Option Bytes) (old new : Memory)
    → place ≡ input_place slot → input ≡ get old.files name
    → new ≡ record old { inputs = put place input old.inputs }
    → seen_in_memory new ≡ (if is_some input then opened slot name (seen_in_memory old) else input_closed slot
    (seen_in_memory old))
found_in_memory slot name place None old new here found is = closed_in_memory slot place old new here is
found_in_memory slot name place (Some bytes) old new here found is =
    opened_in_memory slot name bytes place old new here (sym found) is

-- what an open input still gives is what stands at its place
pub input_told : (slot : InSlot) (place : Place) (m : Memory) (rest : Bytes) → place ≡ input_place slot
    → input_is_open slot (seen_in_memory m) ≡ true
    → rest_of slot (seen_in_memory m) ≡ Some rest → at place m.inputs ≡ Some rest
input_told slot place m rest here is-open is =
    let there = value_of (at place m.inputs) (open_input_in_memory slot place m here is-open) in
    there.1 ∙ sym (rest_in_memory slot place there.0 m here there.1) ∙ is

pub files_told : (m : Memory) (files : Files) → files_of (seen_in_memory m) ≡ Some files → m.files ≡ files
files_told m files is = let told : Some m.files ≡ Some files = sym (files_in_memory m) ∙ is in cc

no_length : (bytes : Bytes) → length bytes ≡ 0 → bytes ≡ []
no_length [] is = refl
no_length (x ∷ bytes) is = absurd (omega arith)

-- a read of some room gives nothing just at the end
pub ends : (count room : ℕ) (rest : Bytes) → count ≡ min room (length rest) → 0 < room → (count ≡ 0)
    ↔ (rest ≡ [])
ends count room rest is has-room = (
  λ none. no_length rest (omega arith),
  λ end. let e = ap length end in
      omega (arith, e),
)

-- an output was closed, its file made empty, and its name put in its place
pub created_in_steps : (slot : OutSlot) (name kept : Name) (p q : Place) (old first second new : Memory)
    → p ≡ output_place slot → q ≡ output_place slot → kept ≡ name
    → first ≡ record old { outputs = put p None old.outputs }
    → second ≡ record first { files = with_file name [] first.files }
    → new ≡ record second { outputs = put q (Some kept) second.outputs }
    → seen_in_memory new ≡ created slot name (seen_in_memory old)
created_in_steps slot name kept p q old first second new p-here q-here same one two three =
    created_in_memory slot name (output_place slot) old new refl (
    three
    ∙ ap (λ (m : Memory). record m { outputs = put q (Some kept) m.outputs }) (two
    ∙ ap (λ (m : Memory). record m { files = with_file name [] m.files }) one)
    ∙ ap (λ o. record old { files = with_file name [] old.files; outputs = o })
    (ap (λ x. put x (Some kept) (put p None old.outputs)) q-here
    ∙ ap (λ x. put (output_place slot) (Some kept) (put x None old.outputs)) p-here
    ∙ put-put (output_place slot) None (Some kept) old.outputs
    ∙ ap (λ n. put (output_place slot) (Some n) old.outputs) same))
