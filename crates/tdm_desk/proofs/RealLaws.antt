-- Open slots and counts of a desk of real files.
use Rattle.std.proofs.Common.{◌≡◌, ◌≤◌, ℕ, true, false, refl, sym, ap, ◌∙◌, arith}
use Rattle.std.specs.Prelude.{Option, Some, None, is_some}
use Rattle.tdm_desk.specs.declared.slots.InSlot.{InSlot}
use Rattle.tdm_desk.specs.declared.slots.OutSlot.{OutSlot}
use Rattle.tdm_desk.specs.declared.slots.Place.{Place}
use Rattle.tdm_desk.specs.declared.slots.Slots.{Slots}
use Rattle.tdm_desk.specs.Slots.{at, put, map_slots, input_place, output_place}
use Rattle.tdm_desk.specs.Files.{Bytes, Name, Files}
use Rattle.tdm_desk.specs.Seen.{opened, input_closed, taken, created, output_closed, written, said, input_is_open, output_is_open, files_of, rest_of}
use Rattle.tdm_desk.specs.Counts.{Counts, CountsFaults, read_faults, write_faults}
use Rattle.tdm_desk.specs.RealDesk.{RealDesk, seen_of_real, counts_of_real, never}
use Rattle.tdm_desk.proofs.SlotLaws.{put-at, put-put, at-map, map-put}

-- ---- the slots of files

module _ {F : Type 0} where
  -- a file was taken out and put back
  pub put_back : (place : Place) (file later : F) (start middle last : Slots (Option F))
      → Some file ≡ at place start
      → middle ≡ put place None start → last ≡ put place (Some later) middle
      → map_slots is_some last ≡ map_slots is_some start
  put_back place file later start middle last there out back =
      ap (map_slots is_some) (back ∙ ap (put place (Some later)) out ∙ put-put place None (Some later) start)
      ∙ map-put is_some place (Some later) start
      ∙ ap (λ b. put place b (map_slots is_some start)) (ap is_some there ∙ sym (at-map is_some place start))
      ∙ put-at place (map_slots is_some start)

  -- no file stands at a place that is open
  pub not_none : (place : Place) (files : Slots (Option F)) (file : Option F) → file ≡ at place files
      → file ≡ None → at place (map_slots is_some files) ≡ true → ⊥
  not_none place files file there none is-open =
      let e : false ≡ true = ap is_some (sym none ∙ there) ∙ sym (at-map is_some place files) ∙ is-open in cc

-- ---- the counts

counts_kept : (old new : RealDesk)
    → ((slot : InSlot) → read_faults slot old.counts ≤ read_faults slot new.counts)
    → write_faults old.counts ≤ write_faults new.counts → CountsFaults counts_of_real never old new
counts_kept old new reading writing = record {
  reading_kept = reading;
  writing_kept = writing;
  steady_stays = λ is. is;
  steady_counts = λ is. absurd is;
}

pub counts_same : (old new : RealDesk) → new.counts ≡ old.counts → CountsFaults counts_of_real never old new
counts_same old new same = counts_kept old new
    (λ slot. let e = ap (read_faults slot) same in omega (arith, e))
    (let e = ap write_faults same in omega (arith, e))

-- what is seen does not hold the counts
pub seen_counted : (counts : Counts) (old new : RealDesk) → new ≡ record old { counts = counts }
    → seen_of_real new ≡ seen_of_real old
unfolding seen_of_real
seen_counted counts old new is = ap seen_of_real is

-- ---- the calls of a desk that tells nothing

pub opened_real : (slot : InSlot) (name : Name) (place : Place) (old new : RealDesk)
    → place ≡ input_place slot
    → new ≡ record old { inputs = put place true old.inputs }
    → seen_of_real new ≡ opened slot name (seen_of_real old)
unfolding seen_of_real opened
opened_real slot name place old new here is =
    ap seen_of_real (is ∙ ap (λ p. record old { inputs = put p true old.inputs }) here)

pub closed_real : (slot : InSlot) (place : Place) (old new : RealDesk) → place ≡ input_place slot
    → new ≡ record old { inputs = put place false old.inputs }
    → seen_of_real new ≡ input_closed slot (seen_of_real old)
unfolding seen_of_real input_closed
closed_real slot place old new here is =
    ap seen_of_real (is ∙ ap (λ p. record old { inputs = put p false old.inputs }) here)

pub created_real : (slot : OutSlot) (name : Name) (place : Place) (old new : RealDesk)
    → place ≡ output_place slot
    → new ≡ record old { outputs = put place true old.outputs }
    → seen_of_real new ≡ created slot name (seen_of_real old)
unfolding seen_of_real created
created_real slot name place old new here is =
    ap seen_of_real (is ∙ ap (λ p. record old { outputs = put p true old.outputs }) here)

pub finished_real : (slot : OutSlot) (place : Place) (old new : RealDesk) → place ≡ output_place slot
    → new ≡ record old { outputs = put place false old.outputs }
    → seen_of_real new ≡ output_closed slot (seen_of_real old)
unfolding seen_of_real output_closed
finished_real slot place old new here is =
    ap seen_of_real (is ∙ ap (λ p. record old { outputs = put p false old.outputs }) here)

pub taken_real : (slot : InSlot) (count : ℕ) (desk : RealDesk)
    → seen_of_real desk ≡ taken slot count (seen_of_real desk)
unfolding seen_of_real taken
taken_real slot count desk = refl

pub written_real : (slot : OutSlot) (bytes : Bytes) (desk : RealDesk)
    → seen_of_real desk ≡ written slot bytes (seen_of_real desk)
unfolding seen_of_real written
written_real slot bytes desk = refl

pub said_real : (bytes : Bytes) (desk : RealDesk) → seen_of_real desk ≡ said bytes (seen_of_real desk)
unfolding seen_of_real said
said_real bytes desk = refl

pub open_input_real : (slot : InSlot) (place : Place) (desk : RealDesk) → place ≡ input_place slot
    → input_is_open slot (seen_of_real desk) ≡ true → at place desk.inputs ≡ true
unfolding seen_of_real input_is_open
open_input_real slot place desk here is-open = ap (λ p. at p desk.inputs) here ∙ is-open

pub open_output_real : (slot : OutSlot) (place : Place) (desk : RealDesk) → place ≡ output_place slot
    → output_is_open slot (seen_of_real desk) ≡ true → at place desk.outputs ≡ true
unfolding seen_of_real output_is_open
open_output_real slot place desk here is-open = ap (λ p. at p desk.outputs) here ∙ is-open

-- it tells no file and no rest
pub no_files : {P : Type 0} (desk : RealDesk) (files : Files) → files_of (seen_of_real desk) ≡ Some files → P
unfolding seen_of_real files_of
no_files desk files is = absurd (let e : None ≡ Some files = is in cc)

pub no_rest : {P : Type 0} (slot : InSlot) (desk : RealDesk) (rest : Bytes) → rest_of slot (seen_of_real desk)
    ≡ Some rest → P
unfolding seen_of_real rest_of
no_rest slot desk rest is = absurd (let e : None ≡ Some rest = is in cc)
