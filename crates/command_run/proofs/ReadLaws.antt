-- What the steps of reading an input leave.
use Rattle.std.proofs.Common.{◌≡◌, ◌≢◌, ◌⊎◌, ℕ, ◌+◌, ◌-◌, ◌<◌, ◌≤◌, [], Bool, true, false, refl, sym, ap, subst, ◌∙◌, inl, inr, arith, drop}
use Rattle.std.specs.Prelude.{Option, Some, None, is_some, option_map, unwrap_or, IsTrue, IsFalse, if◌then◌else◌}
use Rattle.std.proofs.lemmas.List.{take_all}
use Rattle.std.specs.Option.{ForSome}
use Rattle.std.specs.FinMap.{get, contains_key}
use Rattle.tdm_desk.specs.declared.slots.InSlot.{InSlot}
use Rattle.tdm_desk.specs.declared.slots.InSlot.TheVariants.{In0, In1, In2}
use Rattle.tdm_desk.specs.Slots.{input_place}
use Rattle.tdm_desk.specs.Files.{Bytes, Name, Files, bytes_under}
use Rattle.tdm_desk.specs.Seen.{Seen, opened, input_closed, taken, files_of, said_of, rest_of, input_is_open, output_is_open}
use Rattle.tdm_desk.proofs.SeenLaws.{files-opened, files-input_closed, files-taken, said-opened, said-input_closed, said-taken, rest-opened, rest-taken, rest-opened_other, rest-input_closed_other, rest-taken_other, input_is_open-opened, input_is_open-taken, input_is_open-opened_other, input_is_open-input_closed_other, output_is_open-opened, output_is_open-input_closed, output_is_open-taken}
use Rattle.command_run.specs.Slots.{place, WasRead}
use Rattle.command_run.specs.Filled.{IsFed, FilledFrom}
use Rattle.command_run.specs.Decision.{OnlyReads}

-- a slot before or behind another is not that one
pub apart : (slot other : InSlot) → (place other ≤ place slot - 1) ⊎ (place slot < place other)
    → input_place slot ≢ input_place other
unfolding input_place
apart In0 In0 (inl h) e = omega arith
apart In0 In0 (inr h) e = omega arith
apart In1 In1 (inl h) e = omega arith
apart In1 In1 (inr h) e = omega arith
apart In2 In2 (inl h) e = omega arith
apart In2 In2 (inr h) e = omega arith
apart _ _ h e = cc

-- an input that is closed is the only slot that is touched
pub only-closed : (slot : InSlot) (before after : Seen) → after ≡ input_closed slot before
    → OnlyReads (place slot - 1) (place slot) before after
only-closed slot before after is = record {
  files = ap files_of is ∙ files-input_closed slot before;
  said = ap said_of is ∙ said-input_closed slot before;
  inputs = λ other out. record {
    opens = ap (input_is_open other) is ∙ input_is_open-input_closed_other other slot before
        (apart slot other out);
    rest = ap (rest_of other) is ∙ rest-input_closed_other other slot before (apart slot other out);
  };
  outputs = λ out. ap (output_is_open out) is ∙ output_is_open-input_closed out slot before;
}

-- so is one that is opened and read from
pub only-taken : (slot : InSlot) (name : Name) (count : ℕ) (before between after : Seen)
    → between ≡ opened slot name before → after ≡ taken slot count between
    → OnlyReads (place slot - 1) (place slot) before after
only-taken slot name count before between after first second = record {
  files = ap files_of second ∙ files-taken slot count between ∙ ap files_of first
      ∙ files-opened slot name before;
  said = ap said_of second ∙ said-taken slot count between ∙ ap said_of first ∙ said-opened slot name before;
  inputs = λ other out. record {
    opens = ap (input_is_open other) second ∙ input_is_open-taken other slot count between
        ∙ ap (input_is_open other) first ∙ input_is_open-opened_other other slot name before
        (apart slot other out);
    rest = ap (rest_of other) second ∙ rest-taken_other other slot count between (apart slot other out)
        ∙ ap (rest_of other) first ∙ rest-opened_other other slot name before (apart slot other out);
  };
  outputs = λ out. ap (output_is_open out) second ∙ output_is_open-taken out slot count between
      ∙ ap (output_is_open out) first ∙ output_is_open-opened out slot name before;
}

-- an opened input is open
pub opened-is-open : (slot : InSlot) (name : Name) (before after : Seen) → after ≡ opened slot name before
    → IsTrue (input_is_open slot after)
opened-is-open slot name before after is = ap (input_is_open slot) is ∙ input_is_open-opened slot name before

-- which of two states it is, by how the test went
pub when-true : {A : Type 0} (b : Bool) (x y z : A) → b ≡ true → x ≡ (if b then y else z) → x ≡ y
when-true b x y z is e = e ∙ ap (λ t. if t then y else z) is

pub when-false : {A : Type 0} (b : Bool) (x y z : A) → b ≡ false → x ≡ (if b then y else z) → x ≡ z
when-false b x y z is e = e ∙ ap (λ t. if t then y else z) is

there : (o : Option Bytes) → is_some o ≡ true → Some (unwrap_or o []) ≡ o
there None e = cc
there (Some b) e = refl

-- one byte more than the limit was taken of an input that was opened
pub read-through : (slot : InSlot) (limit : ℕ) (name : Name) (before between after : Seen)
    → between ≡ opened slot name before → after ≡ taken slot (limit + 1) between
    → WasRead slot limit name before after
read-through slot limit name before between after first is = record {
  is_open = ap (input_is_open slot) is ∙ input_is_open-taken slot slot (limit + 1) between
      ∙ ap (input_is_open slot) first ∙ input_is_open-opened slot name before;
  rest =
      ap (rest_of slot) is ∙ rest-taken slot (limit + 1) between
      ∙ ap (option_map (drop (limit + 1))) (ap (rest_of slot) first ∙ rest-opened slot name before)
      ∙ by (files_of before);
}
  where
    by : (files : Option Files) → option_map (drop (limit + 1)) (option_map (bytes_under name) files)
        ≡ option_map (λ f. drop (limit + 1) (bytes_under name f)) files
    by None = refl
    by (Some f) = refl

-- what was taken are the first bytes of the file; where the desk does not tell, the file may hold just these
pub filled : {Q : Type 0} (is_at : Q → Bytes → Type 0) (reader : Q) (slot : InSlot) (limit : ℕ) (name : Name)
    (before between after : Seen)
    → (found : Bool) → found ≡ true → ForSome (files_of before) (λ files. found ≡ contains_key files name)
    → between ≡ opened slot name before → after ≡ taken slot (limit + 1) between
    → IsFed is_at reader (limit + 1) (rest_of slot between)
    → FilledFrom is_at reader slot name limit before after
unfolding bytes_under
filled is_at reader slot limit name before between after found is_there shown first second it =
    by (files_of before) refl
  where
    by : (files : Option Files) → files_of before ≡ files
        → FilledFrom is_at reader slot name limit before after
    by None told = record {
      bytes = it.fed;
      held = λ files is. absurd (let e : ◌≡◌ {A = Option Files} None (Some files) = sym told ∙ is in cc);
      stands = subst (is_at reader) (sym (take_all (limit + 1) it.fed it.short)) it.stands;
      through = read-through slot limit name before between after first second;
    }
    by (Some files) told = record {
      bytes = bytes_under name files;
      held = λ others is.
          let same : ◌≡◌ {A = Option Files} (Some files) (Some others) = sym told ∙ is in
          let equal : files ≡ others = cc in
          ap (λ f. get f name) (sym equal) ∙ sym (there (get files name) (sym (shown files told) ∙ is_there));
      stands = subst (is_at reader) (it.front (bytes_under name files) (ap (rest_of slot) first
          ∙ rest-opened slot name before ∙ ap (option_map (bytes_under name)) told)) it.stands;
      through = read-through slot limit name before between after first second;
    }

-- there is no file of this name
pub absent : (name : Name) (before : Seen) (found : Bool) → IsFalse found
    → ForSome (files_of before) (λ files. found ≡ contains_key files name)
    → ForSome (files_of before) (λ files. get files name ≡ None)
absent name before found is_not shown = λ files is. missing (get files name) (sym (shown files is) ∙ is_not)
  where
    missing : (o : Option Bytes) → is_some o ≡ false → o ≡ None
    missing None e = refl
    missing (Some b) e = cc
