-- What the files in a list are, by the place of the first of a name.
use Rattle.std.proofs.Common.{◌≡◌, ◌≢◌, ◌<◌, ℕ, zero, suc, List, [], ◌∷◌, ◌++◌, length, get_or, set, refl, sym, ap, subst, ◌∙◌, arith, string_bytes}
use Rattle.std.specs.Prelude.{Some, None, All}
use Rattle.std.specs.List.{HoldsAt, AllWithin}
use Rattle.std.specs.FinMap.{get, get-empty}
use Rattle.std.specs.Ordering.{nat_cmp}
use Rattle.std.specs.Cmp.Lexicographic.{slice_cmp}
use Rattle.tdm_desk.specs.declared.file_table.NamedFile.{NamedFile}
use Rattle.tdm_desk.specs.Files.{Bytes, Name, Files, with_file, with_more}
use Rattle.tdm_desk.specs.FileTable.{files_in}
use Rattle.tdm_desk.proofs.FileLaws.{get-with_file, get-with_file_other, with_file-with_file, with_file-swapped, with_file-same, with_more-some}

-- no file of this name before the place, and one there
pub record IsFirst (name : Name) (files : List NamedFile) (at : ℕ) : Type 0 where
  pub within : at < length files
  pub before : AllWithin (λ file. string_bytes file.name ≢ name) files 0 at
  pub there : HoldsAt (λ file. string_bytes file.name ≡ name) files at

later : (name : Name) (file : NamedFile) (files : List NamedFile) (at : ℕ)
    → IsFirst name (file ∷ files) (suc at) → IsFirst name files at
later name file files at is = record {
  within = omega (arith, is.within);
  before = λ k d low high. is.before (suc k) d (omega arith) (omega arith);
  there = λ d. is.there d;
}

pub get-first : (name : Name) (files : List NamedFile) (at : ℕ) (d : NamedFile) → IsFirst name files at
    → get (files_in files) name ≡ Some (get_or files at d).bytes.items
unfolding files_in
get-first name [] at d is = absurd (omega (arith, is.within))
get-first name (file ∷ files) zero d is =
    ap (λ n. get (with_file n file.bytes.items (files_in files)) name) (is.there d) ∙ get-with_file name _ _
get-first name (file ∷ files) (suc at) d is =
    get-with_file_other _ name _ _ (λ same. is.before 0 d (omega arith) (omega arith) (sym same))
    ∙ get-first name files at d (later name file files at is)

pub get-absent : (name : Name) (files : List NamedFile) → All (λ file. string_bytes file.name ≢ name) files
    → get (files_in files) name ≡ None
unfolding files_in
get-absent name [] absent = get-empty (slice_cmp nat_cmp) name
get-absent name (file ∷ files) absent =
    get-with_file_other _ name _ _ (λ same. absent 0 file (omega arith) (sym same))
    ∙ get-absent name files (λ k d below. absent (suc k) d (omega arith))

-- the first of a name is replaced
pub files-set : (name : Name) (files : List NamedFile) (at : ℕ) (new : NamedFile) → IsFirst name files at
    → string_bytes new.name ≡ name
    → files_in (set files at new) ≡ with_file name new.bytes.items (files_in files)
unfolding files_in
files-set name [] at new is named = absurd (omega (arith, is.within))
files-set name (file ∷ files) zero new is named =
    ap (λ n. with_file n new.bytes.items (files_in files)) named
    ∙ sym (with_file-with_file name file.bytes.items new.bytes.items (files_in files))
    ∙ ap (λ n. with_file name new.bytes.items (with_file n file.bytes.items (files_in files)))
    (sym (is.there file))
files-set name (file ∷ files) (suc at) new is named =
    ap (with_file (string_bytes file.name) file.bytes.items)
    (files-set name files at new (later name file files at is) named)
    ∙ with_file-swapped _ name _ _ _ (is.before 0 file (omega arith) (omega arith))

-- a file with a new name comes last
pub files-push : (name : Name) (files : List NamedFile) (new : NamedFile)
    → All (λ file. string_bytes file.name ≢ name) files → string_bytes new.name ≡ name
    → files_in (files ++ new ∷ []) ≡ with_file name new.bytes.items (files_in files)
unfolding files_in
files-push name [] new absent named = ap (λ n. with_file n new.bytes.items (files_in [])) named
files-push name (file ∷ files) new absent named =
    ap (with_file (string_bytes file.name) file.bytes.items)
    (files-push name files new (λ k d below. absent (suc k) d (omega arith)) named)
    ∙ with_file-swapped _ name _ _ _ (absent 0 file (omega arith))

-- what a search tells of the list that it searched
pub is_first : (name : Name) (listed files : List NamedFile) (at : ℕ) → listed ≡ files → at < length listed
    → AllWithin (λ file. string_bytes file.name ≢ name) listed 0 at
    → HoldsAt (λ file. string_bytes file.name ≡ name) listed at → IsFirst name files at
is_first name listed files at same within before there =
    subst (λ xs. IsFirst name xs at) same (record { within = within; before = before; there = there })

pub is_absent : (name : Name) (listed files : List NamedFile) → listed ≡ files
    → All (λ file. string_bytes file.name ≢ name) listed → All (λ file. string_bytes file.name ≢ name) files
is_absent name listed files same absent =
    subst (λ xs. All (λ file. string_bytes file.name ≢ name) xs) same absent

pub named : (name : Name) (files : List NamedFile) (at : ℕ) (old : NamedFile) → IsFirst name files at
    → old ≡ get_or files at old → string_bytes old.name ≡ name
named name files at old is it = ap (λ file. string_bytes file.name) it ∙ is.there old

-- the first of a name is replaced by a file of the same name
pub files-replaced : (name : Name) (bytes : Bytes) (files : List NamedFile) (at : ℕ) (old new : NamedFile)
    (table : Files) → IsFirst name files at → old ≡ get_or files at old
    → string_bytes new.name ≡ string_bytes old.name → new.bytes.items ≡ bytes → files_in files ≡ table
    → files_in (set files at new) ≡ with_file name bytes table
files-replaced name bytes files at old new table is it same-name holds same =
    files-set name files at new is (same-name ∙ named name files at old is it)
    ∙ ap (λ b. with_file name b (files_in files)) holds ∙ ap (with_file name bytes) same

-- the first of a name has more bytes
pub files-append : (name : Name) (more : Bytes) (files : List NamedFile) (at : ℕ) (old new : NamedFile)
    (table : Files) → IsFirst name files at → old ≡ get_or files at old
    → string_bytes new.name ≡ string_bytes old.name → new.bytes.items ≡ old.bytes.items ++ more
    → files_in files ≡ table
    → files_in (set files at new) ≡ with_more name more table
files-append name more files at old new table is it same-name holds same =
    files-replaced name (old.bytes.items ++ more) files at old new (files_in files) is it same-name holds refl
    ∙ sym (with_more-some name old.bytes.items more (files_in files) (get-first name files at old is
    ∙ ap (λ file. Some file.bytes.items) (sym it)))
    ∙ ap (with_more name more) same

-- the first of a name has what it had
pub files-kept : (name : Name) (files : List NamedFile) (at : ℕ) (old new : NamedFile) (table : Files)
    → IsFirst name files at → old ≡ get_or files at old
    → string_bytes new.name ≡ string_bytes old.name → new.bytes.items ≡ old.bytes.items
    → files_in files ≡ table
    → files_in (set files at new) ≡ table
files-kept name files at old new table is it same-name holds same =
    files-replaced name old.bytes.items files at old new (files_in files) is it same-name holds refl
    ∙ with_file-same name old.bytes.items (files_in files) (get-first name files at old is
    ∙ ap (λ file. Some file.bytes.items) (sym it))
    ∙ same

-- a file with a new name comes last
pub files-added : (name : Name) (bytes : Bytes) (files : List NamedFile) (new : NamedFile) (table : Files)
    → All (λ file. string_bytes file.name ≢ name) files
    → string_bytes new.name ≡ name → new.bytes.items ≡ bytes → files_in files ≡ table
    → files_in (files ++ new ∷ []) ≡ with_file name bytes table
files-added name bytes files new table absent is holds same =
    files-push name files new absent is ∙ ap (λ b. with_file name b (files_in files)) holds
    ∙ ap (with_file name bytes) same
