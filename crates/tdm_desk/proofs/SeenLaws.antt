-- What a caller sees after each call of a desk: its files, what was said, the rests and the open slots.
use Rattle.std.proofs.Common.{◌≡◌, ℕ, ◌+◌, true, false, [], ◌++◌, refl, sym, ap, ◌∙◌, append_assoc, drop}
use Rattle.std.proofs.lemmas.List.{append-nil, drop-drop}
use Rattle.std.specs.Prelude.{Option, Some, None, option_map}
use Rattle.tdm_desk.specs.declared.slots.InSlot.{InSlot}
use Rattle.tdm_desk.specs.declared.slots.OutSlot.{OutSlot}
use Rattle.tdm_desk.specs.Slots.{at, put, input_place, output_place}
use Rattle.tdm_desk.specs.Files.{Bytes, Name, Files, bytes_under, with_file}
use Rattle.tdm_desk.specs.Seen.{Told, Seen, opened, input_closed, taken, created, output_closed, with_output, written, said, input_is_open, output_is_open, files_of, rest_of, said_of}
use Rattle.tdm_desk.proofs.SlotLaws.{at-put, at-put_other, put-put, put-at}
use Rattle.tdm_desk.proofs.FileLaws.{with_more-with_file, with_more-nothing, with_more-with_more}

map-map : {A B C : Type 0} (f : A → B) (g : B → C) (h : A → C) (o : Option A) → ((a : A) → g (f a) ≡ h a)
    → option_map g (option_map f o) ≡ option_map h o
map-map f g h None same = refl
map-map f g h (Some a) same = ap Some (same a)

-- ---- the files

pub files-opened : (slot : InSlot) (name : Name) (s : Seen) → files_of (opened slot name s) ≡ files_of s
unfolding files_of opened
files-opened slot name s = map-map _ _ _ s.told (λ t. refl)

pub files-input_closed : (slot : InSlot) (s : Seen) → files_of (input_closed slot s) ≡ files_of s
unfolding files_of input_closed
files-input_closed slot s = map-map _ _ _ s.told (λ t. refl)

pub files-taken : (slot : InSlot) (count : ℕ) (s : Seen) → files_of (taken slot count s) ≡ files_of s
unfolding files_of taken
files-taken slot count s = map-map _ _ _ s.told (λ t. refl)

pub files-said : (bytes : Bytes) (s : Seen) → files_of (said bytes s) ≡ files_of s
unfolding files_of said
files-said bytes s = map-map _ _ _ s.told (λ t. refl)

pub files-output_closed : (slot : OutSlot) (s : Seen) → files_of (output_closed slot s) ≡ files_of s
unfolding files_of output_closed
files-output_closed slot s = map-map _ _ _ s.told (λ t. refl)

-- a created file is empty
pub files-created : (slot : OutSlot) (name : Name) (s : Seen) → files_of (created slot name s)
    ≡ option_map (with_file name []) (files_of s)
unfolding files_of created
files-created slot name s =
    map-map _ _ (λ (t : Told). with_file name [] t.files) s.told (λ t. refl)
    ∙ sym (map-map (λ (t : Told). t.files) (with_file name []) _ s.told (λ t. refl))

-- a created file to which bytes were written has just these
pub files-written-created : (slot : OutSlot) (bytes : Bytes) (name : Name) (s : Seen)
    → files_of (written slot bytes (created slot name s)) ≡ option_map (with_file name bytes) (files_of s)
unfolding files_of written created with_output
files-written-created slot bytes name s = by s.told
  where
    by : (o : Option Told) → files_of (written slot bytes (created slot name (record s { told = o })))
        ≡ option_map (with_file name bytes) (files_of (record s { told = o }))
    by None = refl
    by (Some t) =
        ap (λ n. Some (with_output n bytes (with_file name [] t.files)))
        (at-put (output_place slot) (Some name) t.names)
        ∙ ap Some (with_more-with_file name [] bytes t.files)

-- ---- what was said

pub said-opened : (slot : InSlot) (name : Name) (s : Seen) → said_of (opened slot name s) ≡ said_of s
unfolding said_of opened
said-opened slot name s = map-map _ _ _ s.told (λ t. refl)

pub said-input_closed : (slot : InSlot) (s : Seen) → said_of (input_closed slot s) ≡ said_of s
unfolding said_of input_closed
said-input_closed slot s = map-map _ _ _ s.told (λ t. refl)

pub said-taken : (slot : InSlot) (count : ℕ) (s : Seen) → said_of (taken slot count s) ≡ said_of s
unfolding said_of taken
said-taken slot count s = map-map _ _ _ s.told (λ t. refl)

pub said-created : (slot : OutSlot) (name : Name) (s : Seen) → said_of (created slot name s) ≡ said_of s
unfolding said_of created
said-created slot name s = map-map _ _ _ s.told (λ t. refl)

pub said-written : (slot : OutSlot) (bytes : Bytes) (s : Seen) → said_of (written slot bytes s) ≡ said_of s
unfolding said_of written
said-written slot bytes s = map-map _ _ _ s.told (λ t. refl)

pub said-output_closed : (slot : OutSlot) (s : Seen) → said_of (output_closed slot s) ≡ said_of s
unfolding said_of output_closed
said-output_closed slot s = map-map _ _ _ s.told (λ t. refl)

-- more was said
pub said-said : (bytes : Bytes) (s : Seen) → said_of (said bytes s) ≡ option_map (λ before. before ++ bytes)
    (said_of s)
unfolding said_of said
said-said bytes s =
    map-map _ _ (λ (t : Told). t.said ++ bytes) s.told (λ t. refl)
    ∙ sym (map-map (λ (t : Told). t.said) (λ before. before ++ bytes) _ s.told (λ t. refl))

-- ---- the rests

-- an opened input gives the bytes of its file
pub rest-opened : (slot : InSlot) (name : Name) (s : Seen) → rest_of slot (opened slot name s)
    ≡ option_map (bytes_under name) (files_of s)
unfolding rest_of opened files_of
rest-opened slot name s =
    map-map _ _ (λ (t : Told). bytes_under name t.files) s.told (λ t. at-put (input_place slot) _ _)
    ∙ sym (map-map (λ (t : Told). t.files) (bytes_under name) _ s.told (λ t. refl))

pub rest-taken : (slot : InSlot) (count : ℕ) (s : Seen) → rest_of slot (taken slot count s)
    ≡ option_map (drop count) (rest_of slot s)
unfolding rest_of taken
rest-taken slot count s =
    map-map _ _ (λ (t : Told). drop count (at (input_place slot) t.rests)) s.told
    (λ t. at-put (input_place slot) _ _)
    ∙ sym (map-map (λ (t : Told). at (input_place slot) t.rests) (drop count) _ s.told (λ t. refl))

-- the other inputs still give what they gave
pub rest-opened_other : (slot other : InSlot) (name : Name) (s : Seen)
    → (input_place other ≡ input_place slot → ⊥) → rest_of slot (opened other name s) ≡ rest_of slot s
unfolding rest_of opened
rest-opened_other slot other name s apart =
    map-map _ _ _ s.told (λ t. at-put_other (input_place other) (input_place slot) _ t.rests apart)

pub rest-input_closed_other : (slot other : InSlot) (s : Seen) → (input_place other ≡ input_place slot → ⊥)
    → rest_of slot (input_closed other s) ≡ rest_of slot s
unfolding rest_of input_closed
rest-input_closed_other slot other s apart =
    map-map _ _ _ s.told (λ t. at-put_other (input_place other) (input_place slot) _ t.rests apart)

pub rest-taken_other : (slot other : InSlot) (count : ℕ) (s : Seen)
    → (input_place other ≡ input_place slot → ⊥) → rest_of slot (taken other count s) ≡ rest_of slot s
unfolding rest_of taken
rest-taken_other slot other count s apart =
    map-map _ _ _ s.told (λ t. at-put_other (input_place other) (input_place slot) _ t.rests apart)

-- no output and nothing that is said changes what the inputs still give
pub rest-created : (slot : InSlot) (out : OutSlot) (name : Name) (s : Seen)
    → rest_of slot (created out name s) ≡ rest_of slot s
unfolding rest_of created
rest-created slot out name s = map-map _ _ _ s.told (λ t. refl)

pub rest-written : (slot : InSlot) (out : OutSlot) (bytes : Bytes) (s : Seen)
    → rest_of slot (written out bytes s) ≡ rest_of slot s
unfolding rest_of written
rest-written slot out bytes s = map-map _ _ _ s.told (λ t. refl)

pub rest-output_closed : (slot : InSlot) (out : OutSlot) (s : Seen) → rest_of slot (output_closed out s)
    ≡ rest_of slot s
unfolding rest_of output_closed
rest-output_closed slot out s = map-map _ _ _ s.told (λ t. refl)

pub rest-said : (slot : InSlot) (bytes : Bytes) (s : Seen) → rest_of slot (said bytes s) ≡ rest_of slot s
unfolding rest_of said
rest-said slot bytes s = map-map _ _ _ s.told (λ t. refl)

-- ---- the open slots

pub input_is_open-opened : (slot : InSlot) (name : Name) (s : Seen) → input_is_open slot (opened slot name s)
    ≡ true
unfolding input_is_open opened
input_is_open-opened slot name s = at-put (input_place slot) true s.inputs

-- another input, an output and what is said leave it open or closed
pub input_is_open-opened_other : (slot other : InSlot) (name : Name) (s : Seen)
    → (input_place other ≡ input_place slot → ⊥) → input_is_open slot (opened other name s)
    ≡ input_is_open slot s
unfolding input_is_open opened
input_is_open-opened_other slot other name s apart =
    at-put_other (input_place other) (input_place slot) true s.inputs apart

pub input_is_open-input_closed_other : (slot other : InSlot) (s : Seen)
    → (input_place other ≡ input_place slot → ⊥) → input_is_open slot (input_closed other s)
    ≡ input_is_open slot s
unfolding input_is_open input_closed
input_is_open-input_closed_other slot other s apart =
    at-put_other (input_place other) (input_place slot) false s.inputs apart

pub input_is_open-created : (slot : InSlot) (out : OutSlot) (name : Name) (s : Seen)
    → input_is_open slot (created out name s) ≡ input_is_open slot s
unfolding input_is_open created
input_is_open-created slot out name s = refl

pub input_is_open-written : (slot : InSlot) (out : OutSlot) (bytes : Bytes) (s : Seen)
    → input_is_open slot (written out bytes s) ≡ input_is_open slot s
unfolding input_is_open written
input_is_open-written slot out bytes s = refl

pub input_is_open-output_closed : (slot : InSlot) (out : OutSlot) (s : Seen)
    → input_is_open slot (output_closed out s) ≡ input_is_open slot s
unfolding input_is_open output_closed
input_is_open-output_closed slot out s = refl

pub input_is_open-said : (slot : InSlot) (bytes : Bytes) (s : Seen) → input_is_open slot (said bytes s)
    ≡ input_is_open slot s
unfolding input_is_open said
input_is_open-said slot bytes s = refl

pub input_is_open-taken : (slot other : InSlot) (count : ℕ) (s : Seen)
    → input_is_open slot (taken other count s) ≡ input_is_open slot s
unfolding input_is_open taken
input_is_open-taken slot other count s = refl

pub output_is_open-created : (slot : OutSlot) (name : Name) (s : Seen)
    → output_is_open slot (created slot name s) ≡ true
unfolding output_is_open created
output_is_open-created slot name s = at-put (output_place slot) true s.outputs

-- the other outputs are open where they were
pub output_is_open-created_other : (slot other : OutSlot) (name : Name) (s : Seen)
    → (output_place other ≡ output_place slot → ⊥) → output_is_open slot (created other name s)
    ≡ output_is_open slot s
unfolding output_is_open created
output_is_open-created_other slot other name s apart =
    at-put_other (output_place other) (output_place slot) true s.outputs apart

pub output_is_open-closed_other : (slot other : OutSlot) (s : Seen) → (output_place other ≡ output_place slot
    → ⊥) → output_is_open slot (output_closed other s) ≡ output_is_open slot s
unfolding output_is_open output_closed
output_is_open-closed_other slot other s apart =
    at-put_other (output_place other) (output_place slot) false s.outputs apart

pub output_is_open-output_closed : (slot : OutSlot) (s : Seen) → output_is_open slot (output_closed slot s)
    ≡ false
unfolding output_is_open output_closed
output_is_open-output_closed slot s = at-put (output_place slot) false s.outputs

-- no input opens or closes an output
pub output_is_open-opened : (slot : OutSlot) (input : InSlot) (name : Name) (s : Seen)
    → output_is_open slot (opened input name s) ≡ output_is_open slot s
unfolding output_is_open opened
output_is_open-opened slot input name s = refl

pub output_is_open-input_closed : (slot : OutSlot) (input : InSlot) (s : Seen)
    → output_is_open slot (input_closed input s) ≡ output_is_open slot s
unfolding output_is_open input_closed
output_is_open-input_closed slot input s = refl

pub output_is_open-taken : (slot : OutSlot) (input : InSlot) (count : ℕ) (s : Seen)
    → output_is_open slot (taken input count s) ≡ output_is_open slot s
unfolding output_is_open taken
output_is_open-taken slot input count s = refl

pub output_is_open-written : (slot other : OutSlot) (bytes : Bytes) (s : Seen)
    → output_is_open slot (written other bytes s) ≡ output_is_open slot s
unfolding output_is_open written
output_is_open-written slot other bytes s = refl

pub output_is_open-said : (slot : OutSlot) (bytes : Bytes) (s : Seen) → output_is_open slot (said bytes s)
    ≡ output_is_open slot s
unfolding output_is_open said
output_is_open-said slot bytes s = refl

-- ---- several steps as one

mapped : {A : Type 0} (f g : A → A) (o : Option A) → ((a : A) → f a ≡ g a) → option_map f o ≡ option_map g o
mapped f g None same = refl
mapped f g (Some a) same = ap Some (same a)

unchanged : {A : Type 0} (f : A → A) (o : Option A) → ((a : A) → f a ≡ a) → option_map f o ≡ o
unchanged f None same = refl
unchanged f (Some a) same = ap Some (same a)

pub taken-none : (slot : InSlot) (s : Seen) → taken slot 0 s ≡ s
unfolding taken
taken-none slot s = ap (λ o. record s { told = o })
    (unchanged _ s.told (λ t. ap (λ r. record t { rests = r }) (put-at (input_place slot) t.rests)))

pub taken-taken : (slot : InSlot) (a b : ℕ) (s : Seen) → taken slot b (taken slot a s) ≡ taken slot (a + b) s
unfolding taken
taken-taken slot a b s =
    ap (λ o. record s { told = o }) (map-map _ _ _ s.told (λ t. ap (λ r. record t { rests = r }) (
    put-put (input_place slot) _ _ t.rests
    ∙ ap (λ rest. put (input_place slot) (drop b rest) t.rests) (at-put (input_place slot) _ t.rests)
    ∙ ap (λ rest. put (input_place slot) rest t.rests) (drop-drop b a (at (input_place slot) t.rests)))))

pub written-nothing : (slot : OutSlot) (s : Seen) → written slot [] s ≡ s
unfolding written with_output
written-nothing slot s =
    ap (λ o. record s { told = o })
    (unchanged _ s.told (λ t. ap (λ f. record t { files = f }) (by (at (output_place slot) t.names) t.files)))
  where
    by : (name : Option Name) (files : Files) → with_output name [] files ≡ files
    by None files = refl
    by (Some name) files = with_more-nothing name files

pub written-written : (slot : OutSlot) (a b : Bytes) (s : Seen) → written slot b (written slot a s)
    ≡ written slot (a ++ b) s
unfolding written with_output
written-written slot a b s =
    ap (λ o. record s { told = o })
    (map-map _ _ _ s.told
    (λ t. ap (λ f. record t { files = f }) (by (at (output_place slot) t.names) t.files)))
  where
    by : (name : Option Name) (files : Files) → with_output name b (with_output name a files)
        ≡ with_output name (a ++ b) files
    by None files = refl
    by (Some name) files = with_more-with_more name a b files

pub said-nothing : (s : Seen) → said [] s ≡ s
unfolding said
said-nothing s = ap (λ o. record s { told = o })
    (unchanged _ s.told (λ t. ap (λ b. record t { said = b }) (append-nil t.said)))

pub said-both : (a b : Bytes) (s : Seen) → said b (said a s) ≡ said (a ++ b) s
unfolding said
said-both a b s = ap (λ o. record s { told = o })
    (map-map _ _ _ s.told (λ t. ap (λ c. record t { said = c }) (append_assoc t.said a b)))

-- what a call leaves of the files, of what was said, and of the open slots
pub ruleset after_calls = (
  files-opened,
  files-input_closed,
  files-taken,
  files-said,
  files-output_closed,
  files-created,
  files-written-created,
  said-opened,
  said-input_closed,
  said-taken,
  said-created,
  said-written,
  said-output_closed,
  said-said,
  rest-opened,
  rest-taken,
  rest-created,
  rest-written,
  rest-output_closed,
  rest-said,
  input_is_open-opened,
  input_is_open-taken,
  output_is_open-created,
  output_is_open-output_closed,
  output_is_open-written,
  output_is_open-said,
)
