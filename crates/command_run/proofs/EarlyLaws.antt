-- What the text of an input says, once a reader was fed it.
use Rattle.std.proofs.Common.{◌≡◌, ℕ, ◌+◌, ◌-◌, refl, sym, ap, subst, ◌∙◌, take, map, Global}
use Rattle.std.specs.Prelude.{List, [], None, Vec, Result, Ok, Err, IfOk, IfErr}
use Rattle.std.specs.declared.alloc.AllocError.{AllocError}
use Rattle.tdm_desk.specs.declared.slots.InSlot.{InSlot}
use Rattle.tdm_desk.specs.Files.{Bytes, Name}
use Rattle.tdm_desk.specs.Seen.{Seen}
use Rattle.tdm_desk.specs.Counts.{Counts}
use Rattle.command_run.specs.declared.outcome.Decision.{Decision}
use Rattle.command_run.specs.declared.outcome.Decision.TheVariants as decision
use Rattle.command_run.specs.Slots.{place}
use Rattle.command_run.specs.Outcome.{Faults, Outcome}
use Rattle.command_run.specs.Inputs.{Input, Content, text, Holds, TextKind, FromText, FromInput}
use Rattle.command_run.specs.Filled.{FilledFrom}
use Rattle.command_run.specs.Decision.{OnlyReads, Had, EarlyShows, DecidesEarly, IsSaid}

same-outcome : {S : Type 0} (opened : ℕ) (s t : S) (r q : Bytes) (x y : List Bytes) → s ≡ t → r ≡ q → x ≡ y
    → ◌≡◌ {A = Outcome S} (record { opened = opened; unread = None; status = s; report = r; texts = x })
    (record { opened = opened; unread = None; status = t; report = q; texts = y })
same-outcome opened s t r q x y e f h =
    ap (λ v. record { opened = opened; unread = None; status = v; report = r; texts = x }) e
    ∙ ap (λ v. record { opened = opened; unread = None; status = t; report = v; texts = x }) f
    ∙ ap (λ v. record { opened = opened; unread = None; status = t; report = q; texts = v }) h

-- the file says what was said of what the reader was fed
module _ {Q S V R : Type 0} (is_at : Q → Bytes → Type 0) (reader : Q) (kind fed_kind : TextKind S V R)
    (slot : InSlot) (name : Name) (limit fed_limit : ℕ) (same_kind : fed_kind ≡ kind) (same_limit : fed_limit
    ≡ limit) (cut : (text : Bytes) → fed_kind.says (take (fed_limit + 1) text) ≡ fed_kind.says text) where
  file-says : (before after : Seen) (filled : FilledFrom is_at reader slot name limit before after)
      (said : Result V R) → ((text : Bytes) → is_at reader text → fed_kind.says text ≡ said)
      → kind.says filled.bytes ≡ said
  file-says before after filled said is =
      ap (λ k. k.says filled.bytes) (sym same_kind) ∙ sym (cut filled.bytes)
      ∙ ap (λ l. fed_kind.says (take (l + 1) filled.bytes)) same_limit
      ∙ is (take (limit + 1) filled.bytes) filled.stands

  -- the file is refused
  pub refused-so : (before after : Seen) (filled : FilledFrom is_at reader slot name limit before after)
      (faults : Faults S) (refusal : R)
      → ((text : Bytes) → is_at reader text → fed_kind.says text ≡ Err refusal)
      → FromInput faults slot kind (text filled.bytes) (λ value outcome. ⊥) (record {
        opened = place slot;
        unread = None;
        status = kind.status;
        report = kind.report refusal;
        texts = [];
      })
  refused-so before after filled faults refusal is =
      subst (λ s. FromText faults slot kind s (λ value outcome. ⊥) (record {
        opened = place slot;
        unread = None;
        status = kind.status;
        report = kind.report refusal;
        texts = [];
      }))
      (sym (file-says before after filled (Err refusal) is)) refl

  pub had : {D : Type 0} {counts : D → Counts} {seen : D → Seen} (before after : D)
      (filled : FilledFrom is_at reader slot name limit (seen before) (seen after))
      → OnlyReads (place slot - 1) (place slot) (seen before) (seen after) → counts after ≡ counts before
      → (value : V) → ((text : Bytes) → is_at reader text → fed_kind.says text ≡ Ok value)
      → Had counts seen kind (record { slot = slot; name = name; limit = limit }) value before after
  had {D} {counts} {seen} before after filled only own value is = record {
    bytes = filled.bytes;
    held = filled.held;
    says = file-says (seen before) (seen after) filled (Ok value) is;
    through = filled.through;
    only = only;
    own = own;
  }

-- an input decides by itself, which is told where there is memory for it
pub tells : {D S T V R : Type 0} {counts : D → Counts} {steady : D → Type 0} {seen : D → Seen} (text_of : T
    → Bytes) (faults : Faults S) (kind : TextKind S V R) (input : Input) (before after : D)
    (content : Content) (right : S) (words : Bytes)
    → Holds (place input.slot) None input content (seen before) (seen after)
    → FromInput faults input.slot kind content (λ value outcome. ⊥) (record {
      opened = place input.slot;
      unread = None;
      status = right;
      report = words;
      texts = [];
    })
    → OnlyReads (place input.slot - 1) (place input.slot) (seen before) (seen after)
    → counts after ≡ counts before
    → (status : S) → status ≡ right → (report : Result (Vec ℕ Global) AllocError)
    → IfOk report (λ made. made.items ≡ words)
    → (d : Decision S T) → IfOk report (λ made. IsSaid status made.items d)
    → IfErr report (λ _. d ≡ decision.NoMemory)
    → DecidesEarly counts steady seen text_of faults kind input before after d
tells {D} {S} {T} {V} {R} {counts} {steady} {seen} text_of faults kind input before after content right words
    held called only own status is report exact d told none = record {
      shows = by report exact told none;
      only = only;
    }
  where
    said : (d : Decision S T) (bytes : Bytes) → bytes ≡ words → IsSaid status bytes d
        → EarlyShows counts steady seen text_of faults kind input before after d
    said (decision.Prepared prepared) bytes same so = record {
      content = content;
      held = held;
      called = subst (FromInput faults input.slot kind content (λ value outcome. ⊥))
          (sym (same-outcome (place input.slot) _ _ _ _ _ _ (so.0 ∙ is) (so.1 ∙ same)
          (ap (map text_of) so.2))) called;
      own = own;
    }
    said (decision.Unread other) bytes same so = absurd so
    said decision.NoMemory bytes same so = absurd so

    by : (report : Result (Vec ℕ Global) AllocError) → IfOk report (λ made. made.items ≡ words)
        → IfOk report (λ made. IsSaid status made.items d) → IfErr report (λ _. d ≡ decision.NoMemory)
        → EarlyShows counts steady seen text_of faults kind input before after d
    by (Ok made) exact told none = said d made.items exact told
    by (Err e) exact told none = subst (EarlyShows counts steady seen text_of faults kind input before after)
        (sym none) own
