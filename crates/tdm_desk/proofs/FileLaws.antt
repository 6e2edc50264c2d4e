-- What files hold after a change of one of them.
use Rattle.std.proofs.Common.{◌≡◌, ◌≢◌, Bool, true, false, cond, [], ◌++◌, refl, sym, ap, ◌∙◌, append_assoc}
use Rattle.std.proofs.lemmas.List.{append-nil}
use Rattle.std.specs.Prelude.{Option, Some, None}
use Rattle.std.specs.declared.cmp.Ordering.{Ordering}
use Rattle.std.specs.declared.cmp.Ordering.TheVariants.{Less, Equal, Greater}
use Rattle.std.specs.Ordering.{nat_cmp, eq_by_cmp, is_eq}
use Rattle.std.proofs.lemmas.Cmp.{tied_itself, nat_list_cmp_total}
use Rattle.std.specs.Cmp.Lexicographic.{slice_cmp}
use Rattle.std.specs.FinMap.{get, get-insert, same_map, slice_cmp-IsAntisymmetric, nat_cmp-IsAntisymmetric}
use Rattle.tdm_desk.specs.Files.{Bytes, Name, Files, with_file, with_more}

same_name : (name : Name) → eq_by_cmp (slice_cmp nat_cmp) name name ≡ true
same_name name = ap is_eq (tied_itself nat_list_cmp_total name)

one_name : (q name : Name) → eq_by_cmp (slice_cmp nat_cmp) q name ≡ true → q ≡ name
one_name q name e = slice_cmp-IsAntisymmetric nat_cmp-IsAntisymmetric q name
    (equal (slice_cmp nat_cmp q name) e)
  where
    equal : (r : Ordering) → is_eq r ≡ true → r ≡ Equal
    equal Less e = cc
    equal Equal e = refl
    equal Greater e = cc

at_file : (name : Name) (bytes : Bytes) (files : Files) (q : Name) → get (with_file name bytes files) q
    ≡ cond (eq_by_cmp (slice_cmp nat_cmp) q name) (Some bytes) (get files q)
unfolding with_file
at_file name bytes files q = get-insert nat_list_cmp_total files name bytes q

-- the file that was changed
pub get-with_file : (name : Name) (bytes : Bytes) (files : Files) → get (with_file name bytes files) name
    ≡ Some bytes
get-with_file name bytes files = at_file name bytes files name
    ∙ ap (λ b. cond b (Some bytes) (get files name)) (same_name name)

apart : (b : Bool) {A : Type 0} (x y : A) (P : Type 0) → (b ≡ true → P) → (P → ⊥) → cond b x y ≡ y
apart true x y P to not = absurd (not (to refl))
apart false x y P to not = refl

-- any other file
pub get-with_file_other : (name q : Name) (bytes : Bytes) (files : Files) → q ≢ name
    → get (with_file name bytes files) q ≡ get files q
get-with_file_other name q bytes files other = at_file name bytes files q
    ∙ apart _ _ _ (q ≡ name) (one_name q name) other

same_files : (f g : Files) → ((q : Name) → get f q ≡ get g q) → f ≡ g
same_files = same_map nat_list_cmp_total (slice_cmp-IsAntisymmetric nat_cmp-IsAntisymmetric)

once : (b : Bool) {A : Type 0} (x y z : A) → cond b x (cond b y z) ≡ cond b x z
once true x y z = refl
once false x y z = refl

-- of two changes of one file the later counts
pub with_file-with_file : (name : Name) (a b : Bytes) (files : Files)
    → with_file name b (with_file name a files) ≡ with_file name b files
with_file-with_file name a b files = same_files _ _ (λ q.
    at_file name b (with_file name a files) q
    ∙ ap (cond (eq_by_cmp (slice_cmp nat_cmp) q name) (Some b)) (at_file name a files q)
    ∙ once (eq_by_cmp (slice_cmp nat_cmp) q name) _ _ _
    ∙ sym (at_file name b files q))

absorbed : (b : Bool) {A : Type 0} (x y : A) → (b ≡ true → y ≡ x) → cond b x y ≡ y
absorbed true x y same = sym (same refl)
absorbed false x y same = refl

-- a file that holds these bytes already
pub with_file-same : (name : Name) (bytes : Bytes) (files : Files) → get files name ≡ Some bytes
    → with_file name bytes files ≡ files
with_file-same name bytes files is = same_files _ _ (λ q.
    at_file name bytes files q
    ∙ absorbed (eq_by_cmp (slice_cmp nat_cmp) q name) _ _ (λ same. ap (get files) (one_name q name same)
    ∙ is))

-- a file that is there, with more bytes
pub with_more-some : (name : Name) (bytes more : Bytes) (files : Files) → get files name ≡ Some bytes
    → with_more name more files ≡ with_file name (bytes ++ more) files
unfolding with_more
with_more-some name bytes more files is =
    ap (λ o. elim o as (λ _. Files) [ Some b ↦ with_file name (b ++ more) files | None ↦ files ]) is

pub with_more-none : (name : Name) (more : Bytes) (files : Files) → get files name ≡ None
    → with_more name more files ≡ files
unfolding with_more
with_more-none name more files is =
    ap (λ o. elim o as (λ _. Files) [ Some b ↦ with_file name (b ++ more) files | None ↦ files ]) is

-- a file that was just written, with more bytes
pub with_more-with_file : (name : Name) (bytes more : Bytes) (files : Files)
    → with_more name more (with_file name bytes files) ≡ with_file name (bytes ++ more) files
with_more-with_file name bytes more files =
    with_more-some name bytes more _ (get-with_file name bytes files)
    ∙ with_file-with_file name bytes (bytes ++ more) files

-- no more bytes
pub with_more-nothing : (name : Name) (files : Files) → with_more name [] files ≡ files
with_more-nothing name files = by (get files name) refl
  where
    by : (o : Option Bytes) → get files name ≡ o → with_more name [] files ≡ files
    by None is = with_more-none name [] files is
    by (Some b) is = with_more-some name b [] files is
        ∙ ap (λ bytes. with_file name bytes files) (append-nil b) ∙ with_file-same name b files is

-- more bytes, twice
pub with_more-with_more : (name : Name) (a b : Bytes) (files : Files)
    → with_more name b (with_more name a files) ≡ with_more name (a ++ b) files
with_more-with_more name a b files = by (get files name) refl
  where
    by : (o : Option Bytes) → get files name ≡ o → with_more name b (with_more name a files)
        ≡ with_more name (a ++ b) files
    by None is = ap (with_more name b) (with_more-none name a files is) ∙ with_more-none name b files is
        ∙ sym (with_more-none name (a ++ b) files is)
    by (Some c) is =
        ap (with_more name b) (with_more-some name c a files is)
        ∙ with_more-with_file name (c ++ a) b files
        ∙ ap (λ bytes. with_file name bytes files) (append_assoc c a b)
        ∙ sym (with_more-some name c (a ++ b) files is)

swap_tests : (a b : Bool) {A : Type 0} (x y z : A) → (a ≡ true → b ≡ true → ⊥)
    → cond a x (cond b y z) ≡ cond b y (cond a x z)
swap_tests true true x y z apart = absurd (apart refl refl)
swap_tests true false x y z apart = refl
swap_tests false b x y z apart = refl

-- changes of two files, in either order
pub with_file-swapped : (one other : Name) (a b : Bytes) (files : Files) → one ≢ other
    → with_file one a (with_file other b files) ≡ with_file other b (with_file one a files)
with_file-swapped one other a b files apart = same_files _ _ (λ q.
    let q-one = eq_by_cmp (slice_cmp nat_cmp) q one in
    let q-other = eq_by_cmp (slice_cmp nat_cmp) q other in
    at_file one a (with_file other b files) q
    ∙ ap (cond q-one (Some a)) (at_file other b files q)
    ∙ swap_tests q-one q-other (Some a) (Some b) (get files q)
    (λ is-one is-other. apart (sym (one_name q one is-one) ∙ one_name q other is-other))
    ∙ ap (cond q-other (Some b)) (sym (at_file one a files q))
    ∙ sym (at_file other b (with_file one a files) q))
