-- What the steps of writing the outputs leave.
use Rattle.std.proofs.Common.{◌≡◌, ◌≢◌, ◌⊎◌, ℕ, zero, suc, ◌+◌, ◌-◌, ◌<◌, ◌≤◌, List, [], ◌∷◌, ◌++◌, length, refl, sym, ap, subst, ◌∙◌, inl, inr, arith, take, drop, slice_index_or, map}
use Rattle.std.specs.Prelude.{Option, Some, None, option_map, IsTrue, IsFalse, Bool, true, false, ◌==◌}
use Rattle.std.proofs.Math.Nat.{eq-or-lt_of_le}
use Rattle.std.proofs.lemmas.List.{append-nil, take_all, length-map}
use Rattle.tdm_desk.specs.declared.slots.OutSlot.{OutSlot}
use Rattle.tdm_desk.specs.declared.slots.OutSlot.TheVariants.{Out0, Out1, Out2}
use Rattle.tdm_desk.specs.Slots.{output_place}
use Rattle.tdm_desk.specs.Files.{Bytes, Name, with_file}
use Rattle.tdm_desk.specs.Seen.{Seen, created, written, output_closed, said, files_of, said_of, rest_of, input_is_open, output_is_open, PrefixWritten, PrefixSaid}
use Rattle.tdm_desk.proofs.SeenLaws.{files-output_closed, files-written-created, files-said, said-created, said-written, said-output_closed, said-said, rest-created, rest-written, rest-output_closed, rest-said, input_is_open-created, input_is_open-written, input_is_open-output_closed, input_is_open-said, output_is_open-created, output_is_open-written, output_is_open-created_other, output_is_open-closed_other, output_is_open-said}
use Rattle.command_run.specs.Slots.{out_place, KeepsInputs, OnlyWrites, AreClosedFrom}
use Rattle.tdm_desk.specs.Counts.{Counts, CountsFaults}
use Rattle.tdm_desk.proofs.CountLaws.{counts_both}
use Rattle.command_run.specs.Outcome.{Faults}
use Rattle.command_run.specs.Outputs.{with_files, Leaves, IsFirstPart, AreBegun, LeavesBegun, IsStop, IsPutOut, IsCutOff, PutsOut}

-- ---- what is left

kept : {A : Type 0} (f : A → A) (o : Option A) → ((a : A) → f a ≡ a) → o ≡ option_map f o
kept f None same = refl
kept f (Some a) same = ap Some (sym (same a))

both : {A : Type 0} (f g h : A → A) (o p q : Option A) → ((a : A) → g (f a) ≡ h a) → p ≡ option_map f o
    → q ≡ option_map g p → q ≡ option_map h o
both f g h None p q same first second = second ∙ ap (option_map g) first
both f g h (Some a) p q same first second = second ∙ ap (option_map g) first ∙ ap Some (same a)

-- the same files are shown, and nothing more was said
pub leaves-nothing : (before after : Seen) (names : List Name) → files_of after ≡ files_of before
    → said_of after ≡ said_of before → Leaves before after names [] []
leaves-nothing before after names files words = record {
  files = files ∙ kept (λ f. f) (files_of before) (λ f. refl);
  said = words ∙ kept (λ s. s ++ []) (said_of before) append-nil;
}

-- nothing is left, and then something
pub nothing-then : (before between after : Seen) (names : List Name) (texts : List Bytes) (more : Bytes)
    → files_of between ≡ files_of before → said_of between ≡ said_of before
    → Leaves between after names texts more → Leaves before after names texts more
nothing-then before between after names texts more files words left = record {
  files = left.files ∙ ap (option_map (with_files names texts)) files;
  said = left.said ∙ ap (option_map (λ s. s ++ more)) words;
}

-- one text, and then the others
pub leaves-then : (before between after : Seen) (name : Name) (text : Bytes) (names : List Name)
    (texts : List Bytes) → Leaves before between (name ∷ []) (text ∷ []) []
    → Leaves between after names texts [] → Leaves before after (name ∷ names) (text ∷ texts) []
leaves-then before between after name text names texts first second = record {
  files = both (with_file name text) (with_files names texts) (with_files (name ∷ names) (text ∷ texts))
      (files_of before) (files_of between) (files_of after) (λ f. refl) first.files second.files;
  said = both (λ s. s ++ []) (λ s. s ++ []) (λ s. s ++ []) (said_of before) (said_of between) (said_of after)
      (λ s. ap (λ t. t ++ []) (append-nil s)) first.said second.said;
}

-- texts, and then what is said
pub leaves-said : (before between after : Seen) (names : List Name) (texts : List Bytes) (more : Bytes)
    → Leaves before between names texts [] → after ≡ said more between → Leaves before after names texts more
leaves-said before between after names texts more first is = record {
  files = ap files_of is ∙ files-said more between ∙ first.files;
  said = ap said_of is ∙ said-said more between ∙ both (λ s. s ++ []) (λ s. s ++ more) (λ s. s ++ more)
      (said_of before) (said_of between) _ (λ s. ap (λ t. t ++ more) (append-nil s)) first.said refl;
}

-- a text in a file that was created and closed
pub leaves-written : (slot : OutSlot) (name : Name) (text : Bytes) (before between after : Seen)
    → between ≡ created slot name before → after ≡ written slot text between
    → Leaves before after (name ∷ []) (text ∷ []) []
leaves-written slot name text before between after first second = record {
  files = ap files_of second ∙ ap (λ s. files_of (written slot text s)) first
      ∙ files-written-created slot text name before;
  said = ap said_of second ∙ said-written slot text between ∙ ap said_of first ∙ said-created slot name before
      ∙ kept (λ s. s ++ []) (said_of before) append-nil;
}

pub leaves-closed : (slot : OutSlot) (before between after : Seen) (names : List Name) (texts : List Bytes)
    → Leaves before between names texts [] → after ≡ output_closed slot between
    → Leaves before after names texts []
leaves-closed slot before between after names texts first is = record {
  files = ap files_of is ∙ files-output_closed slot between ∙ first.files;
  said = ap said_of is ∙ said-output_closed slot between ∙ first.said;
}

-- ---- what was begun

pub whole-part : (text : Bytes) → IsFirstPart text text
whole-part text = (length text, sym (take_all (length text) text (omega arith)))

pub begun-none : (before after : Seen) (names : List Name) (texts : List Bytes)
    → Leaves before after names [] [] → LeavesBegun before after names texts
begun-none before after names texts left = record { begun = []; are = tt; left = left }

-- nothing was created
pub begun-not : (slot : OutSlot) (before after : Seen) (names : List Name) (texts : List Bytes)
    → after ≡ output_closed slot before → LeavesBegun before after names texts
begun-not slot before after names texts is =
    begun-none before after names texts (leaves-nothing before after names (ap files_of is
    ∙ files-output_closed slot before) (ap said_of is ∙ said-output_closed slot before))

-- a first part of the text was written
pub begun-part : (slot : OutSlot) (name : Name) (text : Bytes) (before between after : Seen)
    → between ≡ created slot name before → PrefixWritten slot text between after
    → LeavesBegun before after (name ∷ []) (text ∷ [])
begun-part slot name text before between after first second = record {
  begun = take second.0 text ∷ [];
  are = (second.0, refl);
  left = leaves-written slot name (take second.0 text) before between after first second.1;
}

-- one whole text was written
pub begun-whole : (name : Name) (text : Bytes) (before after : Seen)
    → Leaves before after (name ∷ []) (text ∷ []) [] → LeavesBegun before after (name ∷ []) (text ∷ [])
begun-whole name text before after left = record { begun = text ∷ []; are = whole-part text; left = left }

-- no more than the first text was begun
pub begun-first : (before after : Seen) (name : Name) (text : Bytes) (names : List Name) (texts : List Bytes)
    → LeavesBegun before after (name ∷ []) (text ∷ [])
    → LeavesBegun before after (name ∷ names) (text ∷ texts)
begun-first before after name text names texts part = by part.begun part.are part.left
  where
    by : (begun : List Bytes) → AreBegun begun (text ∷ []) → Leaves before after (name ∷ []) begun []
        → LeavesBegun before after (name ∷ names) (text ∷ texts)
    by [] are left = begun-none before after (name ∷ names) (text ∷ texts) (record {
      files = left.files;
      said = left.said;
    })
    by (one ∷ []) are left = record {
      begun = one ∷ [];
      are = are;
      left = record { files = left.files; said = left.said };
    }
    by (one ∷ two ∷ more) are left = absurd are.1

-- the first text is whole, and the others were begun
pub begun-later : (before between after : Seen) (name : Name) (text : Bytes) (names : List Name)
    (texts : List Bytes) → Leaves before between (name ∷ []) (text ∷ []) []
    → LeavesBegun between after names texts → LeavesBegun before after (name ∷ names) (text ∷ texts)
begun-later before between after name text names texts first part = record {
  begun = text ∷ part.begun;
  are = by part.begun part.are;
  left = leaves-then before between after name text names part.begun first part.left;
}
  where
    by : (begun : List Bytes) → AreBegun begun texts → AreBegun (text ∷ begun) (text ∷ texts)
    by [] are = whole-part text
    by (one ∷ more) are = (refl, are)

-- ---- slots

-- places are counted from 1
pub out-positive : (slot : OutSlot) → 0 < out_place slot
out-positive Out0 = omega arith
out-positive Out1 = omega arith
out-positive Out2 = omega arith

apart : (slot other : OutSlot) → (out_place other ≤ out_place slot - 1) ⊎ (out_place slot < out_place other)
    → output_place slot ≢ output_place other
unfolding output_place
apart Out0 Out0 (inl h) e = omega arith
apart Out0 Out0 (inr h) e = omega arith
apart Out1 Out1 (inl h) e = omega arith
apart Out1 Out1 (inr h) e = omega arith
apart Out2 Out2 (inl h) e = omega arith
apart Out2 Out2 (inr h) e = omega arith
apart _ _ h e = cc

pub writes-closed : (out : OutSlot) (before after : Seen) → after ≡ output_closed out before
    → OnlyWrites (out_place out - 1) (out_place out) before after
writes-closed out before after is = record {
  inputs = λ slot. record {
    opens = ap (input_is_open slot) is ∙ input_is_open-output_closed slot out before;
    rest = ap (rest_of slot) is ∙ rest-output_closed slot out before;
  };
  outputs = λ slot other. ap (output_is_open slot) is ∙ output_is_open-closed_other slot out before
      (apart out slot other);
}

pub writes-written : (out : OutSlot) (name : Name) (bytes : Bytes) (before between after : Seen)
    → between ≡ created out name before → after ≡ written out bytes between
    → OnlyWrites (out_place out - 1) (out_place out) before after
writes-written out name bytes before between after first second = record {
  inputs = λ slot. record {
    opens = ap (input_is_open slot) second ∙ input_is_open-written slot out bytes between
        ∙ ap (input_is_open slot) first ∙ input_is_open-created slot out name before;
    rest = ap (rest_of slot) second ∙ rest-written slot out bytes between ∙ ap (rest_of slot) first
        ∙ rest-created slot out name before;
  };
  outputs = λ slot other. ap (output_is_open slot) second ∙ output_is_open-written slot out bytes between
      ∙ ap (output_is_open slot) first ∙ output_is_open-created_other slot out name before
      (apart out slot other);
}

inputs-then : (before between after : Seen) → KeepsInputs before between → KeepsInputs between after
    → KeepsInputs before after
inputs-then before between after first second = λ slot. record {
  opens = (second slot).opens ∙ (first slot).opens;
  rest = (second slot).rest ∙ (first slot).rest;
}

pub writes-twice : (first last : ℕ) (before between after : Seen) → OnlyWrites first last before between
    → OnlyWrites first last between after → OnlyWrites first last before after
writes-twice first last before between after one two = record {
  inputs = inputs-then before between after one.inputs two.inputs;
  outputs = λ slot other. two.outputs slot other ∙ one.outputs slot other;
}

pub writes-nothing : (first last : ℕ) (s : Seen) → OnlyWrites first last s s
writes-nothing first last s = record {
  inputs = λ slot. record { opens = refl; rest = refl };
  outputs = λ slot other. refl;
}

-- one output was touched, and no more
pub writes-first : (out : OutSlot) (done count : ℕ) (before after : Seen) → out_place out ≡ done + 1
    → 0 < count → OnlyWrites (out_place out - 1) (out_place out) before after
    → OnlyWrites done (done + count) before after
writes-first out done count before after is some one = record {
  inputs = one.inputs;
  outputs = λ slot other. one.outputs slot (by slot other);
}
  where
    by : (slot : OutSlot) → (out_place slot ≤ done) ⊎ (done + count < out_place slot)
        → (out_place slot ≤ out_place out - 1) ⊎ (out_place out < out_place slot)
    by slot (inl h) = inl (omega arith)
    by slot (inr h) = inr (omega arith)

-- and then those behind it
pub writes-then : (out : OutSlot) (done count rest : ℕ) (before between after : Seen)
    → out_place out ≡ done + 1 → count ≡ rest + 1
    → OnlyWrites (out_place out - 1) (out_place out) before between
    → OnlyWrites (done + 1) (done + 1 + rest) between after → OnlyWrites done (done + count) before after
writes-then out done count rest before between after is some one two = record {
  inputs = inputs-then before between after one.inputs two.inputs;
  outputs = λ slot other. two.outputs slot (later slot other) ∙ one.outputs slot (first slot other);
}
  where
    first : (slot : OutSlot) → (out_place slot ≤ done) ⊎ (done + count < out_place slot)
        → (out_place slot ≤ out_place out - 1) ⊎ (out_place out < out_place slot)
    first slot (inl h) = inl (omega arith)
    first slot (inr h) = inr (omega arith)

    later : (slot : OutSlot) → (out_place slot ≤ done) ⊎ (done + count < out_place slot)
        → (out_place slot ≤ done + 1) ⊎ (done + 1 + rest < out_place slot)
    later slot (inl h) = inl (omega arith)
    later slot (inr h) = inr (omega arith)

-- two outputs at one place are one
same-place : (a b : OutSlot) → out_place a ≡ out_place b → a ≡ b
same-place Out0 Out0 e = refl
same-place Out1 Out1 e = refl
same-place Out2 Out2 e = refl
same-place _ _ e = absurd (omega arith)

-- one output was closed, and then those behind it
pub closed-then : (out : OutSlot) (done count rest : ℕ) (between after : Seen) → out_place out ≡ done + 1
    → count ≡ rest + 1 → IsFalse (output_is_open out between)
    → OnlyWrites (done + 1) (done + 1 + rest) between after → AreClosedFrom (done + 1) (done + 1 + rest) after
    → AreClosedFrom done (done + count) after
closed-then out done count rest between after is some shut two closed =
    λ slot above below. by slot below (eq-or-lt_of_le {n = done + 1} {m = out_place slot}
    (omega (arith, above)))
  where
    by : (slot : OutSlot) → out_place slot ≤ done + count → (done + 1 ≡ out_place slot)
        ⊎ (done + 1 < out_place slot) → IsFalse (output_is_open slot after)
    by slot below (inl e) =
        subst (λ o. IsFalse (output_is_open o after)) (sym (same-place slot out (sym e ∙ sym is)))
        (two.outputs out (inl (omega arith)) ∙ shut)
    by slot below (inr far) = closed slot far (omega arith)

pub opened-is-open : (slot : OutSlot) (name : Name) (before after : Seen) → after ≡ created slot name before
    → IsTrue (output_is_open slot after)
opened-is-open slot name before after is = ap (output_is_open slot) is
    ∙ output_is_open-created slot name before

pub still-is-open : (slot : OutSlot) (name : Name) (bytes : Bytes) (before between after : Seen)
    → between ≡ created slot name before → after ≡ written slot bytes between
    → IsTrue (output_is_open slot after)
still-is-open slot name bytes before between after first second =
    ap (output_is_open slot) second ∙ output_is_open-written slot slot bytes between
    ∙ ap (output_is_open slot) first ∙ output_is_open-created slot name before

-- ---- lists of texts

-- a list that was tested not to be empty has an element
pub not-empty : (n : ℕ) (test : Bool) → test ≡ false → test ≡ (n == 0) → 0 < n
not-empty zero test failed is = absurd (let passed : test ≡ true = is in cc)
not-empty (suc n) test failed is = omega arith

-- all but the first element, as a slice
rest-of : {A : Type 0} (x : A) (xs : List A) → take (length (x ∷ xs) - 1) (drop 1 (x ∷ xs)) ≡ xs
rest-of x xs = take_all (length (x ∷ xs) - 1) xs (omega arith)

module _ {A B : Type 0} (name_of : A → Name) (text_of : B → Bytes) where
  -- of texts no more than the first was begun
  pub list-begun-first : (before after : Seen) (names : List A) (texts : List B) (name : A) (text : B)
      → 0 < length names → 0 < length texts → name ≡ slice_index_or names 0 name
      → text ≡ slice_index_or texts 0 text → LeavesBegun before after (name_of name ∷ []) (text_of text ∷ [])
      → LeavesBegun before after (map name_of names) (map text_of texts)
  list-begun-first before after [] texts name text some more e f part = absurd (omega arith)
  list-begun-first before after (n ∷ ns) [] name text some more e f part = absurd (omega arith)
  list-begun-first before after (n ∷ ns) (t ∷ ts) name text some more e f part =
      begun-first before after (name_of n) (text_of t) (map name_of ns) (map text_of ts)
      (subst (λ x. LeavesBegun before after (name_of x ∷ []) (text_of t ∷ [])) e
      (subst (λ y. LeavesBegun before after (name_of name ∷ []) (text_of y ∷ [])) f part))

  -- the first text is whole, and the others were begun
  pub list-begun-later : (before between after : Seen) (names : List A) (texts : List B) (name : A) (text : B)
      → 0 < length names → 0 < length texts → name ≡ slice_index_or names 0 name
      → text ≡ slice_index_or texts 0 text → Leaves before between (name_of name ∷ []) (text_of text ∷ []) []
      → LeavesBegun between after (map name_of (take (length names - 1) (drop 1 names)))
      (map text_of (take (length texts - 1) (drop 1 texts)))
      → LeavesBegun before after (map name_of names) (map text_of texts)
  list-begun-later before between after [] texts name text some more e f first part = absurd (omega arith)
  list-begun-later before between after (n ∷ ns) [] name text some more e f first part = absurd (omega arith)
  list-begun-later before between after (n ∷ ns) (t ∷ ts) name text some more e f first part =
      begun-later before between after (name_of n) (text_of t) (map name_of ns) (map text_of ts)
      (subst (λ x. Leaves before between (name_of x ∷ []) (text_of t ∷ []) []) e
      (subst (λ y. Leaves before between (name_of name ∷ []) (text_of y ∷ []) []) f first))
      (subst (λ xs. LeavesBegun between after (map name_of xs) (map text_of ts)) (rest-of n ns)
      (subst (λ ys. LeavesBegun between after
      (map name_of (take (length (n ∷ ns) - 1) (drop 1 (n ∷ ns)))) (map text_of ys))
      (rest-of t ts) part))

-- ---- the report

module _ {D S T : Type 0} {counts : D → Counts} {steady : D → Type 0} {seen : D → Seen} (faults : Faults S)
    (names : List Name) (text : T → Bytes) (texts : List T) (report : Bytes) (status : S)
    (before between after : D) (answer : S) (more : Bytes) where
  -- all texts were written, and this was said
  pub puts : OnlyWrites 0 (0 + length texts) (seen before) (seen between)
      → CountsFaults counts steady before between → CountsFaults counts steady between after
      → seen after ≡ said more (seen between)
      → IsPutOut counts steady seen faults names (map text texts) report status None before after answer
      ⊎ IsCutOff counts steady seen faults names (map text texts) report status None before after answer
      → PutsOut counts steady seen faults names (map text texts) report status before after answer
  puts only first second is ends = record {
    ends = ends;
    inputs = λ slot. record {
      opens = ap (input_is_open slot) is ∙ input_is_open-said slot more (seen between)
          ∙ (only.inputs slot).opens;
      rest = ap (rest_of slot) is ∙ rest-said slot more (seen between) ∙ (only.inputs slot).rest;
    };
    untouched = λ slot far. ap (output_is_open slot) is ∙ output_is_open-said slot more (seen between)
        ∙ only.outputs slot (inr (omega (arith, length-map texts text)));
    counted = counts_both first second;
  }

  pub said-whole : Leaves (seen before) (seen between) names (map text texts) []
      → AreClosedFrom 0 (0 + length texts) (seen between) → seen after ≡ said report (seen between)
      → answer ≡ status → counts after ≡ counts before
      → IsPutOut counts steady seen faults names (map text texts) report status None before after answer
  said-whole left closed is stands own = record {
    own = own;
    left = leaves-said (seen before) (seen between) (seen after) names (map text texts) report left is;
    closed = λ slot near. ap (output_is_open slot) is ∙ output_is_open-said slot report (seen between)
        ∙ closed slot (out-positive slot) (omega (arith, length-map texts text));
    stands = stands;
  }

  pub said-part : Leaves (seen before) (seen between) names (map text texts) []
      → PrefixSaid report (seen between) (seen after) → IsStop counts steady faults None before after answer
      → IsCutOff counts steady seen faults names (map text texts) report status None before after answer
  said-part left part cause = record {
    begun = map text texts;
    more = take part.0 report;
    is_begun = inr (refl, (part.0, part.1, refl));
    left = leaves-said (seen before) (seen between) (seen after) names (map text texts) (take part.0 report)
        left part.2;
    cause = cause;
  }

module _ {D S : Type 0} {counts : D → Counts} {steady : D → Type 0} {seen : D → Seen} (faults : Faults S)
    (names : List Name) where
  -- the same, told in other words
  pub puts-same : (a b : List Bytes) (r q : Bytes) (s t : S) (before after : D) (answer : S) → a ≡ b → r ≡ q
      → s ≡ t → PutsOut counts steady seen faults names a r s before after answer
      → PutsOut counts steady seen faults names b q t before after answer
  puts-same a b r q s t before after answer e f h puts =
      subst (λ x. PutsOut counts steady seen faults names x q t before after answer) e
      (subst (λ x. PutsOut counts steady seen faults names a x t before after answer) f
      (subst (λ x. PutsOut counts steady seen faults names a r x before after answer) h puts))
