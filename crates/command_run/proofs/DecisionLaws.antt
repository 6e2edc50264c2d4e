-- How what one input says, or decides, joins with what comes behind it.
use Rattle.std.proofs.Common.{◌≡◌, ◌⊎◌, ℕ, suc, ◌+◌, ◌-◌, ◌<◌, ◌≤◌, List, [], ◌∷◌, length, refl, sym, ap, subst, ◌∙◌, inl, inr, arith, drop}
use Rattle.std.specs.Prelude.{Option, Some, None, Result, Ok, Err, IfOk, IfErr, option_map}
use Rattle.std.specs.declared.alloc.AllocError.{AllocError}
use Rattle.std.specs.FinMap.{get}
use Rattle.tdm_desk.specs.declared.slots.InSlot.{InSlot}
use Rattle.tdm_desk.specs.declared.slots.InSlot.TheVariants.{In0, In1, In2}
use Rattle.tdm_desk.specs.Files.{Bytes, Name, Files, bytes_under}
use Rattle.tdm_desk.specs.Seen.{Seen, files_of}
use Rattle.tdm_desk.specs.Counts.{Counts, CountsFaults, read_counted}
use Rattle.tdm_desk.proofs.CountLaws.{counts_both, counts_nothing, reading_failed_later}
use Rattle.command_run.specs.declared.outcome.Decision.{Decision}
use Rattle.command_run.specs.declared.outcome.Decision.TheVariants as decision
use Rattle.command_run.specs.declared.outcome.Prepared.{Prepared}
use Rattle.command_run.specs.Slots.{place, KeepsInput, KeepsInputsBut, WasRead}
use Rattle.command_run.specs.Outcome.{Faults, Outcome, outcome_of, HasFailed}
use Rattle.command_run.specs.Inputs.{Input, Content, no_file, unreadable, text, Holds, HoldEach, TextKind, unread, FromText, FromInput, ByInput, ByNone}
use Rattle.command_run.specs.Decision.{OnlyReads, IsCalledFor, DecisionShows, Decides, Had, EarlyShows, DecidesEarly}

-- places are counted from 1
pub positive : (slot : InSlot) → 0 < place slot
positive In0 = omega arith
positive In1 = omega arith
positive In2 = omega arith

sum-of : (n m : ℕ) → 0 < n → n + m ≡ n - 1 + suc m
sum-of n m h = omega arith

-- these inputs stand behind this place
abbrev pub AreBehind : ℕ → List Input → Type 0
AreBehind first [] = Unit {0}
AreBehind first (input ∷ inputs) = (first < place input.slot) × AreBehind first inputs

-- ---- slots

pub kept-twice : (before between after : Seen) (slot : InSlot) → KeepsInput before between slot
    → KeepsInput between after slot → KeepsInput before after slot
kept-twice before between after slot first second = record {
  opens = second.opens ∙ first.opens;
  rest = second.rest ∙ first.rest;
}

pub still-read : (slot : InSlot) (limit : ℕ) (name : Name) (before between after : Seen)
    → WasRead slot limit name before between → KeepsInput between after slot
    → WasRead slot limit name before after
still-read slot limit name before between after read kept = record {
  is_open = kept.opens ∙ read.is_open;
  rest = kept.rest ∙ read.rest;
}

read-from : (slot : InSlot) (limit : ℕ) (name : Name) (before between after : Seen)
    → files_of between ≡ files_of before → WasRead slot limit name between after
    → WasRead slot limit name before after
read-from slot limit name before between after same read = record {
  is_open = read.is_open;
  rest = read.rest ∙ ap (option_map (λ files. drop (limit + 1) (bytes_under name files))) same;
}

pub wider : (first last more : ℕ) (before after : Seen) → last ≤ more → KeepsInputsBut first last before after
    → KeepsInputsBut first more before after
wider first last more before after below kept = λ slot out. kept slot (by slot out)
  where
    by : (slot : InSlot) → (place slot ≤ first) ⊎ (more < place slot) → (place slot ≤ first)
        ⊎ (last < place slot)
    by slot (inl h) = inl h
    by slot (inr h) = inr (omega arith)

pub only-wider : (first last more : ℕ) (before after : Seen) → last ≤ more → OnlyReads first last before after
    → OnlyReads first more before after
only-wider first last more before after below only = record {
  files = only.files;
  said = only.said;
  inputs = wider first last more before after below only.inputs;
  outputs = only.outputs;
}

-- one input was touched, and then those behind it
then-kept : (slot : InSlot) (last : ℕ) (before between after : Seen) → place slot ≤ last
    → KeepsInputsBut (place slot - 1) (place slot) before between
    → KeepsInputsBut (place slot) last between after → KeepsInputsBut (place slot - 1) last before after
then-kept slot last before between after below first second = λ other out. by other out
  where
    by : (other : InSlot) → (place other ≤ place slot - 1) ⊎ (last < place other)
        → KeepsInput before after other
    by other (inl h) = kept-twice before between after other (first other (inl h))
        (second other (inl (omega arith)))
    by other (inr h) = kept-twice before between after other (first other (inr (omega arith)))
        (second other (inr h))

then-only : (slot : InSlot) (last : ℕ) (before between after : Seen) → place slot ≤ last
    → OnlyReads (place slot - 1) (place slot) before between → OnlyReads (place slot) last between after
    → OnlyReads (place slot - 1) last before after
then-only slot last before between after below first second = record {
  files = second.files ∙ first.files;
  said = second.said ∙ first.said;
  inputs = then-kept slot last before between after below first.inputs second.inputs;
  outputs = λ out. second.outputs out ∙ first.outputs out;
}

-- ---- contents

-- what the file of a name holds, as far as the desk tells, of an input that was not opened
content-under : (opened : ℕ) (failed : Option InSlot) (input : Input) (before after : Seen)
    → opened < place input.slot → (content : Content) × Holds opened failed input content before after
content-under opened failed input before after behind = by (files_of before) refl
  where
    told-by : (P : Files → Type 0) (files : Files) → P files → files_of before ≡ Some files → (others : Files)
        → files_of before ≡ Some others → P others
    told-by P files is told others same =
        let e : ◌≡◌ {A = Option Files} (Some files) (Some others) = sym told ∙ same in
        let equal : files ≡ others = cc in
        subst P equal is

    held : (files : Files) → files_of before ≡ Some files → (found : Option Bytes)
        → get files input.name ≡ found → (content : Content) × Holds opened failed input content before after
    held files told None is = (no_file, told-by (λ fs. get fs input.name ≡ None) files is told)
    held files told (Some bytes) is = (
      text bytes,
      (
        told-by (λ fs. get fs input.name ≡ Some bytes) files is told,
        λ near. absurd (omega arith),
      ),
    )

    by : (files : Option Files) → files_of before ≡ files → (content : Content)
        × Holds opened failed input content before after
    by None told = (
      no_file,
      λ files is. absurd (let e : ◌≡◌ {A = Option Files} None (Some files) = sym told
          ∙ is in cc),
    )
    by (Some files) told = held files told (get files input.name) refl

contents-of : (opened : ℕ) (failed : Option InSlot) (inputs : List Input) (before after : Seen)
    → AreBehind opened inputs → (contents : List Content)
    × HoldEach opened failed inputs contents before after
contents-of opened failed [] before after behind = ([], tt)
contents-of opened failed (input ∷ inputs) before after behind =
    let first = content-under opened failed input before after behind.0 in
    let rest = contents-of opened failed inputs before after behind.1 in
    (first.0 ∷ rest.0, (first.1, rest.1))

-- what is held after some inputs were read was held before
holds-from : (opened : ℕ) (failed : Option InSlot) (input : Input) (content : Content)
    (before between after : Seen) → files_of between ≡ files_of before
    → Holds opened failed input content between after → Holds opened failed input content before after
holds-from opened failed input no_file before between after same held = λ files is. held files (same ∙ is)
holds-from opened failed input unreadable before between after same held = held
holds-from opened failed input (text bytes) before between after same held = (
  λ files is. held.0 files (same ∙ is),
  λ near. read-from input.slot input.limit input.name before between after same (held.1 near),
)

-- what each input holds, all of them hold
pub each-held : (opened : ℕ) (failed : Option InSlot) (before after earlier later : Seen)
    → ((input : Input) (content : Content) → Holds opened failed input content before after
    → Holds opened failed input content earlier later)
    → (inputs : List Input) (contents : List Content) → HoldEach opened failed inputs contents before after
    → HoldEach opened failed inputs contents earlier later
each-held opened failed before after earlier later one [] [] held = tt
each-held opened failed before after earlier later one (input ∷ inputs) (content ∷ contents) held =
    (one input content held.0, each-held opened failed before after earlier later one inputs contents held.1)
each-held opened failed before after earlier later one _ _ held = held

-- ---- reading

module _ {S : Type 0} (faults : Faults S) {V R : Type 0} (slot : InSlot) (kind : TextKind S V R) where
  -- what is decided by an input itself is decided whatever comes behind it
  text-itself : (said : Result V R) (Then : V → Outcome S → Type 0) (outcome : Outcome S)
      → FromText faults slot kind said (λ value o. ⊥) outcome → FromText faults slot kind said Then outcome
  text-itself (Ok value) Then outcome never = absurd never
  text-itself (Err refusal) Then outcome is = is

  input-itself : (content : Content) (Then : V → Outcome S → Type 0) (outcome : Outcome S)
      → FromInput faults slot kind content (λ value o. ⊥) outcome
      → FromInput faults slot kind content Then outcome
  input-itself no_file Then outcome is = is
  input-itself unreadable Then outcome is = is
  input-itself (text bytes) Then outcome is = text-itself (kind.says bytes) Then outcome is

module _ {D : Type 0} {counts : D → Counts} {steady : D → Type 0} {seen : D → Seen} {S T V R : Type 0}
    (text_of : T → Bytes) (faults : Faults S) (kind : TextKind S V R) (input : Input) (inputs : List Input)
    (Then : V → List Content → Outcome S → Type 0) where
  -- an input decided by itself, or could not be read
  pub decides-early : (before after : D) (d : Decision S T) → AreBehind (place input.slot) inputs
      → DecidesEarly counts steady seen text_of faults kind input before after d
      → CountsFaults counts steady before after
      → Decides counts steady seen text_of faults (place input.slot - 1) (input ∷ inputs)
      (ByInput faults input.slot kind Then) before after d
  decides-early before after d behind early counted = record {
    shows = by d early.shows;
    only = only-wider (place input.slot - 1) (place input.slot)
        (place input.slot - 1 + length (input ∷ inputs)) (seen before) (seen after)
        (omega (arith, positive input.slot)) early.only;
    counted = counted;
  }
    where
      rest : (failed : Option InSlot) → (contents : List Content)
          × HoldEach (place input.slot) failed inputs contents (seen before) (seen after)
      rest failed = contents-of (place input.slot) failed inputs (seen before) (seen after) behind

      by : (d : Decision S T) → EarlyShows counts steady seen text_of faults kind input before after d
          → DecisionShows counts steady seen text_of faults (place input.slot - 1) (input ∷ inputs)
          (ByInput faults input.slot kind Then) before after d
      by (decision.Prepared prepared) itself = (
        place input.slot,
        record {
          contents = itself.content ∷ (rest None).0;
          held = (itself.held, (rest None).1);
          called = input-itself faults input.slot kind itself.content (λ value. Then value (rest None).0)
              (outcome_of text_of (place input.slot) prepared) itself.called;
          failed = tt;
          from = omega arith;
          reach = early.only.inputs;
        },
        itself.own,
      )
      by (decision.Unread slot) failed =
          subst (λ s. DecisionShows counts steady seen text_of faults (place input.slot - 1) (input ∷ inputs)
          (ByInput faults input.slot kind Then) before after (decision.Unread s)) (sym failed.0) (
            record {
              contents = unreadable ∷ (rest (Some input.slot)).0;
              held = (refl, (rest (Some input.slot)).1);
              called = refl;
              failed = subst (λ s. HasFailed counts steady (Some s) before after) failed.0 failed.1;
              from = omega arith;
              reach = early.only.inputs;
            },
            subst (λ s. counts after ≡ read_counted s (counts before)) failed.0 failed.2,
          )
      by decision.NoMemory own = own

  -- an input was had, and what comes behind it came to a decision
  pub decides-then : (before between after : D) (value : V) (d : Decision S T)
      → Had counts seen kind input value before between → CountsFaults counts steady before between
      → Decides counts steady seen text_of faults (place input.slot) inputs (Then value) between after d
      → Decides counts steady seen text_of faults (place input.slot - 1) (input ∷ inputs)
      (ByInput faults input.slot kind Then) before after d
  decides-then before between after value d had counted later = record {
    shows = by d later.shows;
    only = subst (λ last. OnlyReads (place input.slot - 1) last (seen before) (seen after))
        (sum-of (place input.slot) (length inputs) (positive input.slot))
        (then-only input.slot (place input.slot + length inputs) (seen before) (seen between) (seen after)
        (omega arith) had.only later.only);
    counted = counts_both counted later.counted;
  }
    where
      failed-later : (u : Option InSlot) → HasFailed counts steady u between after
          → HasFailed counts steady u before after
      failed-later None failed = tt
      failed-later (Some slot) failed = reading_failed_later counted failed

      came : (outcome : Outcome S)
          → IsCalledFor counts steady seen (place input.slot) inputs (Then value) outcome between after
          → IsCalledFor counts steady seen (place input.slot - 1) (input ∷ inputs)
          (ByInput faults input.slot kind Then) outcome before after
      came outcome later_came = record {
        contents = text had.bytes ∷ later_came.contents;
        held = (
          (
            had.held,
            λ near. still-read input.slot input.limit input.name (seen before) (seen between)
                (seen after) had.through (later.only.inputs input.slot (inl (omega arith))),
          ),
          each-held outcome.opened outcome.unread (seen between) (seen after) (seen before) (seen after)
              (λ one content. holds-from outcome.opened outcome.unread one content
              (seen before) (seen between) (seen after) had.only.files)
              inputs later_came.contents later_came.held,
        );
        called = subst (λ said. FromText faults input.slot kind said (λ v. Then v later_came.contents)
            outcome) (sym had.says) later_came.called;
        failed = failed-later outcome.unread later_came.failed;
        from = omega (arith, later_came.from);
        reach = then-kept input.slot outcome.opened (seen before) (seen between) (seen after) later_came.from
            had.only.inputs later_came.reach;
      }

      by : (d : Decision S T) → DecisionShows counts steady seen text_of faults (place input.slot) inputs
          (Then value) between after d
          → DecisionShows counts steady seen text_of faults (place input.slot - 1) (input ∷ inputs)
          (ByInput faults input.slot kind Then) before after d
      by (decision.Prepared prepared) shows = (
        shows.0,
        came (outcome_of text_of shows.0 prepared) shows.1,
        shows.2 ∙ had.own,
      )
      by (decision.Unread slot) shows = (
        came (unread faults slot) shows.0,
        shows.1 ∙ ap (read_counted slot) had.own,
      )
      by decision.NoMemory own = own ∙ had.own

module _ {D : Type 0} {counts : D → Counts} {steady : D → Type 0} {seen : D → Seen} {S T : Type 0}
    (text_of : T → Bytes) (faults : Faults S) (first : ℕ) (Is : Outcome S → Type 0) (desk : D) where
  -- all inputs were had, and an outcome prepared, or memory was wanting
  pub decides-last : (made : Result (Prepared S T) AllocError) (d : Decision S T)
      → IfOk made (λ prepared. Is (outcome_of text_of first prepared))
      → IfOk made (λ prepared. d ≡ decision.Prepared prepared) → IfErr made (λ _. d ≡ decision.NoMemory)
      → Decides counts steady seen text_of faults first [] (ByNone Is) desk desk d
  decides-last made d is some none = record {
    shows = by made is some none;
    only = nothing (first + 0);
    counted = counts_nothing desk;
  }
    where
      nothing : (last : ℕ) → OnlyReads first last (seen desk) (seen desk)
      nothing last = record {
        files = refl;
        said = refl;
        inputs = λ slot out. record { opens = refl; rest = refl };
        outputs = λ out. refl;
      }

      by : (made : Result (Prepared S T) AllocError)
          → IfOk made (λ prepared. Is (outcome_of text_of first prepared))
          → IfOk made (λ prepared. d ≡ decision.Prepared prepared) → IfErr made (λ _. d ≡ decision.NoMemory)
          → DecisionShows counts steady seen text_of faults first [] (ByNone Is) desk desk d
      by (Ok prepared) is some none =
          subst (DecisionShows counts steady seen text_of faults first [] (ByNone Is) desk desk) (sym some) (
            first,
            record {
              contents = [];
              held = tt;
              called = is;
              failed = tt;
              from = omega arith;
              reach = (nothing first).inputs;
            },
            refl,
          )
      by (Err e) is some none =
          subst (DecisionShows counts steady seen text_of faults first [] (ByNone Is) desk desk)
          (sym none) refl
