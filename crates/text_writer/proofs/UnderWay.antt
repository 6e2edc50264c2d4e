-- A text on its way to an output, piece after piece.
use Rattle.std.proofs.Common.{◌≡◌, ℕ, ◌+◌, ◌<◌, ◌≤◌, min, List, [], ◌∷◌, ◌++◌, length, get_or, take, drop, refl, sym, ap, subst, ◌∙◌, arith, append_assoc}
use Rattle.std.specs.Prelude.{Result, Ok, Err, OnOk, OnErr, IsErrOf}
use Rattle.std.specs.List.{flat_map}
use Rattle.std.proofs.lemmas.List.Concat.{flat_map-append}
use Rattle.std.proofs.lemmas.List.{take_more, take-append-drop, take-append-le, take_min, append-nil}
use Rattle.std.proofs.Math.Seq.{take-append-add}
use Rattle.tdm_desk.specs.declared.calls.DeskFault.{DeskFault}
use Rattle.tdm_desk.specs.declared.calls.DeskFault.TheVariants.{Failed}
use Rattle.tdm_desk.specs.declared.slots.OutSlot.{OutSlot}
use Rattle.tdm_desk.specs.Files.{Bytes}
use Rattle.tdm_desk.specs.Seen.{Seen, written, PrefixWritten}
use Rattle.tdm_desk.proofs.SeenLaws.{written-written, written-nothing}
use Rattle.tdm_desk.specs.Counts.{Counts, CountsFaults, CountsOnlyWriting, WritingFailed}
use Rattle.tdm_desk.proofs.CountLaws.{counts_nothing, counts_both, write_fault_later, writing_failed_later}
use Rattle.text_writer.specs.Writing.{IsUnderWay, Brings, Stops, Adds}

-- a front of the first part is a front of the whole
take-front : (k : ℕ) (a b : Bytes) → take k a ≡ take (min k (length a)) (a ++ b)
take-front k a b = let le : min k (length a) ≤ length a = omega arith in
    sym (take-append-le (min k (length a)) a b le ∙ take_min k a)

-- the first part and a front of the second are a front of the whole
take-behind : (k : ℕ) (a b : Bytes) → a ++ take k b ≡ take (length a + k) (a ++ b)
take-behind k a b = sym (take-append-add a b k)

module _ (slot : OutSlot) (text : Bytes) (before : Seen) (pending : Bytes)
    (between : Seen) (more : Bytes) where
  -- one piece after another
  both_under_way : (later : Bytes) (after : Seen)
      → IsUnderWay slot text before pending between → IsUnderWay slot (pending ++ more) between later after
      → IsUnderWay slot (text ++ more) before later after
  both_under_way later after first second = record {
    front = first.front ++ second.front;
    whole = append_assoc first.front second.front later ∙ ap (λ (b : Bytes). first.front ++ b) second.whole
        ∙ sym (append_assoc first.front pending more) ∙ ap (λ (b : Bytes). b ++ more) first.whole;
    is = second.is ∙ ap (written slot second.front) first.is
        ∙ written-written slot first.front second.front before;
  }

  -- of the first part a front was written
  prefix_first : PrefixWritten slot text before between → PrefixWritten slot (text ++ more) before between
  prefix_first fault = (
    min fault.0 (length text),
    fault.1 ∙ ap (λ (b : Bytes). written slot b before) (take-front fault.0 text more),
  )

  -- the first part was under way, and then a front was written of what was pending and came
  prefix_later : (after : Seen)
      → IsUnderWay slot text before pending between → PrefixWritten slot (pending ++ more) between after
      → PrefixWritten slot (text ++ more) before after
  prefix_later after way fault = (
    length way.front + fault.0,
    fault.1 ∙ ap (written slot (take fault.0 (pending ++ more))) way.is
        ∙ written-written slot way.front (take fault.0 (pending ++ more)) before
        ∙ ap (λ (b : Bytes). written slot b before) (take-behind fault.0 way.front (pending ++ more)
        ∙ ap (λ (b : Bytes). take (length way.front + fault.0) b) (sym (append_assoc way.front pending more)
        ∙ ap (λ (b : Bytes). b ++ more) way.whole)),
  )

-- ---- calls that add

module _ {D : Type 0} {seen : D → Seen} {counts : D → Counts} {steady : D → Type 0} {slot : OutSlot} where
  -- nothing is added
  pub brings_none : (pending : Bytes) (desk : D) → Brings seen counts steady slot [] pending desk pending desk
  brings_none pending desk = record {
    way = record {
      front = [];
      whole = sym (append-nil pending);
      is = sym (written-nothing slot (seen desk));
    };
    counted = counts_nothing desk;
    uncounted = refl;
  }

  -- a piece is pending behind what was
  pub brings_pending : (piece pending : Bytes) (desk : D)
      → Brings seen counts steady slot piece pending desk (pending ++ piece) desk
  brings_pending piece pending desk = record {
    way = record { front = []; whole = refl; is = sym (written-nothing slot (seen desk)) };
    counted = counts_nothing desk;
    uncounted = refl;
  }

  -- one text after another
  pub brings_both : {a b pending rest later : Bytes} {before between after : D}
      → Brings seen counts steady slot a pending before rest between
      → Brings seen counts steady slot b rest between later after
      → Brings seen counts steady slot (a ++ b) pending before later after
  brings_both {a} {b} {pending} {rest} {later} {before} {between} {after} first second = record {
    way = subst (λ (text : Bytes). IsUnderWay slot text (seen before) later (seen after))
        (append_assoc pending a b) (both_under_way slot (pending ++ a) (seen before) rest (seen between) b
        later (seen after) first.way second.way);
    counted = counts_both first.counted second.counted;
    uncounted = second.uncounted ∙ first.uncounted;
  }

  -- a fault in the first
  pub stops_first : {a pending later : Bytes} {fault : DeskFault} {before after : D} (b : Bytes)
      → Stops seen counts steady slot a pending fault before later after
      → Stops seen counts steady slot (a ++ b) pending fault before later after
  stops_first {a} {pending} {later} {fault} {before} {after} b first = record {
    prefix = subst (λ (text : Bytes). PrefixWritten slot text (seen before) (seen after))
        (append_assoc pending a b) (prefix_first slot (pending ++ a) (seen before) [] (seen after) b
        first.prefix);
    emptied = first.emptied;
    counted = first.counted;
    own = first.own;
    failed = first.failed;
  }

  -- a fault in the second
  pub stops_second : {a b pending rest later : Bytes} {fault : DeskFault} {before between after : D}
      → Brings seen counts steady slot a pending before rest between
      → Stops seen counts steady slot b rest fault between later after
      → Stops seen counts steady slot (a ++ b) pending fault before later after
  stops_second {a} {b} {pending} {rest} {later} {fault} {before} {between} {after} first second = record {
    prefix = subst (λ (text : Bytes). PrefixWritten slot text (seen before) (seen after))
        (append_assoc pending a b) (prefix_later slot (pending ++ a) (seen before) rest (seen between) b
        (seen after) first.way second.prefix);
    emptied = second.emptied;
    counted = counts_both first.counted second.counted;
    own = write_fault_later counts before between after fault first.uncounted second.own;
    failed = λ is. writing_failed_later first.counted (second.failed is);
  }

  -- a whole text, of which at last what is pending is written
  pub whole_written : {text rest later : Bytes} {before between after : D}
      → Brings seen counts steady slot text [] before rest between
      → Brings seen counts steady slot [] rest between later after → later ≡ []
      → seen after ≡ written slot text (seen before)
  whole_written {text} {rest} {later} {before} first last none =
      let both = brings_both first last in
      both.way.is ∙ ap (λ (b : Bytes). written slot b (seen before)) (sym (append-nil both.way.front)
      ∙ ap (λ (b : Bytes). both.way.front ++ b) (sym none) ∙ both.way.whole ∙ append-nil text)

  -- a fault at last
  pub prefix_written : {text rest later : Bytes} {fault : DeskFault} {before between after : D}
      → Brings seen counts steady slot text [] before rest between
      → Stops seen counts steady slot [] rest fault between later after
      → PrefixWritten slot text (seen before) (seen after)
  prefix_written {text} {rest} {later} {fault} {before} {between} {after} first last =
      subst (λ (b : Bytes). PrefixWritten slot b (seen before) (seen after)) (append-nil text)
      (stops_second first last).prefix

-- what is pending is written, and nothing is pending any more
pub adds_written : {D A : Type 0} (seen : D → Seen) {counts : D → Counts} {steady : D → Type 0}
    (slot : OutSlot)
    (pending : Bytes) {later : Bytes} {before after : D} (result : Result A DeskFault)
    → OnOk result (seen after ≡ written slot pending (seen before))
    → OnErr result (PrefixWritten slot pending (seen before) (seen after))
    → (IsErrOf result Failed → WritingFailed counts steady before after)
    → CountsOnlyWriting counts result before after → CountsFaults counts steady before after
    → later ≡ [] → Adds seen counts steady slot [] pending before later after result
adds_written seen slot pending (Ok answer) ok err failed own counted none = record {
  way = record { front = pending; whole = ap (λ (b : Bytes). pending ++ b) none; is = ok };
  counted = counted;
  uncounted = own;
}
adds_written {D} {A} seen {counts} {steady} slot pending {later} {before} {after} (Err fault) ok
    err failed own
    counted none = record {
      prefix = subst (λ (text : Bytes). PrefixWritten slot text (seen before) (seen after))
          (sym (append-nil pending)) err;
      emptied = none;
      counted = counted;
      own = own;
      failed = λ is. failed (ap Err is);
    }

-- ---- the texts of a list, one after another

-- the text of the front of a list, and of one more
flat_map-more : {X : Type 0} (f : X → Bytes) (xs : List X) (i : ℕ) (d : X) → i < length xs
    → flat_map f (take (i + 1) xs) ≡ flat_map f (take i xs) ++ f (get_or xs i d)
flat_map-more f xs i d lt = ap (flat_map f) (take_more xs i d lt)
    ∙ flat_map-append f (take i xs) (get_or xs i d ∷ []) ∙ ap (λ (b : Bytes). flat_map f (take i xs) ++ b)
    (append-nil (f (get_or xs i d)))

-- the text of the front of a list is the front of the text
flat_map-split : {X : Type 0} (f : X → Bytes) (xs : List X) (i : ℕ)
    → flat_map f (take i xs) ++ flat_map f (drop i xs) ≡ flat_map f xs
flat_map-split f xs i = sym (flat_map-append f (take i xs) (drop i xs))
    ∙ ap (flat_map f) (take-append-drop i xs)

module _ {D : Type 0} {seen : D → Seen} {counts : D → Counts} {steady : D → Type 0} {slot : OutSlot}
    {X : Type 0}
    (f : X → Bytes) (xs : List X) (i : ℕ) (d : X) (there : i < length xs) {pending rest later : Bytes}
    {before between after : D} where
  -- the text of one more
  pub brings_more : Brings seen counts steady slot (flat_map f (take i xs)) pending before rest between
      → Brings seen counts steady slot (f (get_or xs i d)) rest between later after
      → Brings seen counts steady slot (flat_map f (take (i + 1) xs)) pending before later after
  brings_more first second = rw (flat_map-more f xs i d there) (brings_both first second)

  -- a fault in it
  pub stops_more : {fault : DeskFault}
      → Brings seen counts steady slot (flat_map f (take i xs)) pending before rest between
      → Stops seen counts steady slot (f (get_or xs i d)) rest fault between later after
      → Stops seen counts steady slot (flat_map f xs) pending fault before later after
  stops_more {fault} first second =
      let so_far : Stops seen counts steady slot (flat_map f (take (i + 1) xs)) pending fault
      before later after =
      rw (flat_map-more f xs i d there) (stops_second first second) in
      rw (← flat_map-split f xs (i + 1)) (stops_first (flat_map f (drop (i + 1) xs)) so_far)
