-- What an entry's new number does to the list of items.
use Rattle.std.proofs.Common.{◌≡◌, ℕ, ◌+◌, ◌<◌, ◌≤◌, true, false, cond, List, [], ◌∷◌, ◌++◌, length, replicate, Some, arith, refl, sym, ap, subst, ◌∙◌, add-one, length-append, All}
use Rattle.std.specs.Prelude.{unwrap_or}
use Rattle.std.specs.Ordering.{nat_cmp, is_eq}
use Rattle.std.specs.declared.cmp.Ordering.TheVariants.{Less, Equal, Greater}
use Rattle.std.specs.Cmp.{nat_cmp_total}
use Rattle.std.specs.FinMap.{nat_cmp-IsAntisymmetric}
use Rattle.std.specs.List.Sorted.{IsStrictlySortedBy}
use Rattle.std.specs.Map.{keys_of, values_of, lookup, remove_entry, set_value}
use Rattle.std.specs.BTreeMap.{insert_entry, is_at}
use Rattle.std.specs.Ordering.{match_ordering}
use Rattle.std.proofs.lemmas.Map.{lookup-none}
use Rattle.std.proofs.lemmas.Map.Entries.{none_below_head, lookup_head, lookup_tail}
use Rattle.std.proofs.lemmas.Map.Keys.{sorted_tail}
use Rattle.std.proofs.lemmas.Map.Views.{tells_apart}
use Rattle.std.proofs.lemmas.List.{length-replicate}
use Rattle.std.proofs.lemmas.List.Elements.{All-tail, All-nil, All-append, All-replicate}
use Rattle.recip_sum.specs.Kept.{IsRatio}
use Rattle.recip_sum.specs.Items.{counted, items_of, SameReciprocals}
use Rattle.recip_sum.proofs.Same.{SameReciprocals-refl, SameReciprocals-sym, SameReciprocals-trans, SameReciprocals-to_front, SameReciprocals-append}

-- the ratio stands behind the items of another one
past : (e : ℕ × ℕ) (ratio : ℕ) (xs ys : List ℕ) → SameReciprocals xs (ratio ∷ ys)
    → SameReciprocals (replicate e.1 e.0 ++ xs) (ratio ∷ (replicate e.1 e.0 ++ ys))
past e ratio xs ys h =
    SameReciprocals-trans _ (replicate e.1 e.0 ++ ratio ∷ ys) _ (SameReciprocals-append (replicate e.1 e.0) xs
    (ratio ∷ ys) h) (SameReciprocals-to_front (replicate e.1 e.0) ratio ys)

-- one more item at the head
one_more : (x n : ℕ) (xs : List ℕ) → SameReciprocals (replicate (n + 1) x ++ xs) (x ∷ (replicate n x ++ xs))
one_more x n xs = subst (λ k. SameReciprocals (replicate k x ++ xs) (x ∷ (replicate n x ++ xs)))
    (sym (add-one n)) (SameReciprocals-refl _)

pub SameReciprocals-insert_entry : (es : List (ℕ × ℕ)) (ratio : ℕ) → IsStrictlySortedBy nat_cmp (keys_of es)
    → SameReciprocals (items_of (insert_entry nat_cmp es ratio (counted ratio es + 1))) (ratio ∷ items_of es)
SameReciprocals-insert_entry [] ratio h = SameReciprocals-refl (ratio ∷ [])
SameReciprocals-insert_entry (e ∷ es) ratio h =
    let n = counted ratio (e ∷ es) in
    elim (nat_cmp ratio e.0) as (λ o. nat_cmp ratio e.0 ≡ o
    → SameReciprocals (items_of (match_ordering o ((ratio, n + 1) ∷ e ∷ es) ((e.0, n + 1) ∷ es)
    (e ∷ insert_entry nat_cmp es ratio (n + 1)))) (ratio ∷ items_of (e ∷ es))) [
      | Less ↦ λ less.
          let none : n ≡ 0 = ap (λ o. unwrap_or o 0) (lookup-none (is_at (nat_cmp ratio)) (e ∷ es)
          (none_below_head nat_cmp_total ratio e es h less)) in
          subst (λ k. SameReciprocals (replicate (k + 1) ratio ++ items_of (e ∷ es))
          (ratio ∷ items_of (e ∷ es))) (sym none) (SameReciprocals-refl _)
      | Equal ↦ λ equal.
          let same : e.0 ≡ ratio = sym (nat_cmp-IsAntisymmetric ratio e.0 equal) in
          let here : n ≡ e.1 =
          ap (λ o. unwrap_or o 0) (lookup_head (is_at (nat_cmp ratio)) e es (ap is_eq equal)) in
          subst (λ k. SameReciprocals (replicate (k + 1) e.0 ++ items_of es) (ratio ∷ items_of (e ∷ es)))
          (sym here)
          (subst (λ x. SameReciprocals (replicate (e.1 + 1) e.0 ++ items_of es) (x ∷ items_of (e ∷ es))) same
          (one_more e.0 e.1 (items_of es)))
      | Greater ↦ λ greater.
          let later : n ≡ counted ratio es =
          ap (λ o. unwrap_or o 0) (lookup_tail (is_at (nat_cmp ratio)) e es (ap is_eq greater)) in
          subst (λ k. SameReciprocals (items_of (e ∷ insert_entry nat_cmp es ratio (k + 1)))
          (ratio ∷ items_of (e ∷ es))) (sym later)
          (past e ratio (items_of (insert_entry nat_cmp es ratio (counted ratio es + 1))) (items_of es)
          (SameReciprocals-insert_entry es ratio (sorted_tail nat_cmp e.0 (keys_of es) h)))
    ] refl

-- the ratio at which the test passes
ratio_at : (ratio key : ℕ) → is_at (nat_cmp ratio) key ≡ true → key ≡ ratio
ratio_at ratio key h = sym (tells_apart nat_cmp-IsAntisymmetric ratio key h)

pub SameReciprocals-set_value : (es : List (ℕ × ℕ)) (ratio left : ℕ) → lookup (is_at (nat_cmp ratio)) es
    ≡ Some (left + 1) → SameReciprocals (ratio ∷ items_of (set_value (is_at (nat_cmp ratio)) es left))
    (items_of es)
SameReciprocals-set_value [] ratio left h = cc
SameReciprocals-set_value (e ∷ es) ratio left h =
    elim (is_at (nat_cmp ratio) e.0) as (λ b. is_at (nat_cmp ratio) e.0 ≡ b
    → cond b (Some e.1) (lookup (is_at (nat_cmp ratio)) es) ≡ Some (left + 1)
    → SameReciprocals (ratio
    ∷ items_of (cond b ((e.0, left) ∷ es) (e ∷ set_value (is_at (nat_cmp ratio)) es left)))
    (items_of (e ∷ es))) [
      | true ↦ λ at value.
          let number : e.1 ≡ left + 1 = cc in
          let same : e.0 ≡ ratio = ratio_at ratio e.0 at in
          subst (λ k. SameReciprocals (ratio ∷ (replicate left e.0 ++ items_of es))
          (replicate k e.0 ++ items_of es)) (sym number)
          (subst (λ x. SameReciprocals (x ∷ (replicate left e.0 ++ items_of es)) (replicate (left + 1) e.0
          ++ items_of es)) same (SameReciprocals-sym _ _ (one_more e.0 left (items_of es))))
      | false ↦ λ _ value. SameReciprocals-sym _ _ (past e ratio (items_of es)
          (items_of (set_value (is_at (nat_cmp ratio)) es left))
          (SameReciprocals-sym _ _ (SameReciprocals-set_value es ratio left value)))
    ] refl h

pub SameReciprocals-remove_entry : (es : List (ℕ × ℕ)) (ratio : ℕ) → lookup (is_at (nat_cmp ratio)) es
    ≡ Some 1 → SameReciprocals (ratio ∷ items_of (remove_entry (is_at (nat_cmp ratio)) es)) (items_of es)
SameReciprocals-remove_entry [] ratio h = cc
SameReciprocals-remove_entry (e ∷ es) ratio h =
    elim (is_at (nat_cmp ratio) e.0) as (λ b. is_at (nat_cmp ratio) e.0 ≡ b
    → cond b (Some e.1) (lookup (is_at (nat_cmp ratio)) es) ≡ Some 1
    → SameReciprocals (ratio ∷ items_of (cond b es (e ∷ remove_entry (is_at (nat_cmp ratio)) es)))
    (items_of (e ∷ es))) [
      | true ↦ λ at value.
          let number : e.1 ≡ 1 = cc in
          let same : e.0 ≡ ratio = ratio_at ratio e.0 at in
          subst (λ k. SameReciprocals (ratio ∷ items_of es) (replicate k e.0 ++ items_of es)) (sym number)
          (subst (λ x. SameReciprocals (x ∷ items_of es) (e.0 ∷ items_of es)) same (SameReciprocals-refl _))
      | false ↦ λ _ value. SameReciprocals-sym _ _ (past e ratio (items_of es)
          (items_of (remove_entry (is_at (nat_cmp ratio)) es))
          (SameReciprocals-sym _ _ (SameReciprocals-remove_entry es ratio value)))
    ] refl h

-- no ratio counts more than all items
pub counted-le : (es : List (ℕ × ℕ)) (ratio : ℕ) → counted ratio es ≤ length (items_of es)
counted-le [] ratio = omega arith
counted-le (e ∷ es) ratio =
    let rest = counted-le es ratio in
    let long : length (items_of (e ∷ es)) ≡ e.1 + length (items_of es) =
    length-append (replicate e.1 e.0) (items_of es)
    ∙ ap (λ n. n + length (items_of es)) (length-replicate e.1 e.0) in
    elim (is_at (nat_cmp ratio) e.0) as
    (λ b. unwrap_or (cond b (Some e.1) (lookup (is_at (nat_cmp ratio)) es)) 0
    ≤ length (items_of (e ∷ es))) [
      | true ↦ omega (arith, long)
      | false ↦ omega (arith, long, rest)
    ]

-- there are no more ratios than items
pub length-le-items_of : (es : List (ℕ × ℕ)) → All (λ count. 0 < count) (values_of es)
    → length es ≤ length (items_of es)
length-le-items_of [] h = omega arith
length-le-items_of (e ∷ es) h =
    let rest = length-le-items_of es (All-tail (λ count. 0 < count) e.1 (values_of es) h) in
    let here = h 0 e.1 (omega arith) in
    omega (arith, rest, here, length-append (replicate e.1 e.0) (items_of es), length-replicate e.1 e.0)

-- a ratio that is counted is positive
pub counted_is_positive : (es : List (ℕ × ℕ)) (ratio : ℕ) → All IsRatio (keys_of es) → 0 < counted ratio es
    → 0 < ratio
counted_is_positive [] ratio h there = absurd (omega arith)
counted_is_positive (e ∷ es) ratio h there =
    elim (is_at (nat_cmp ratio) e.0) as (λ b. is_at (nat_cmp ratio) e.0 ≡ b
    → 0 < unwrap_or (cond b (Some e.1) (lookup (is_at (nat_cmp ratio)) es)) 0 → 0 < ratio) [
      | true ↦ λ at _. subst (λ r. 0 < r) (ratio_at ratio e.0 at) (h 0 e.0 (omega arith)).0
      | false ↦ λ _ later. counted_is_positive es ratio (All-tail IsRatio e.0 (keys_of es) h) later
    ] refl there

-- the reciprocals of the items of positive ratios
pub items_of-positive : (es : List (ℕ × ℕ)) → All IsRatio (keys_of es) → All (λ r. 0 < r) (items_of es)
items_of-positive [] h = All-nil (λ r. 0 < r)
items_of-positive (e ∷ es) h =
    All-append (λ r. 0 < r) (replicate e.1 e.0) (items_of es)
    (All-replicate (λ r. 0 < r) e.1 e.0 (h 0 e.0 (omega arith)).0)
    (items_of-positive es (All-tail IsRatio e.0 (keys_of es) h))

-- where there are items there is a ratio
pub some_ratio : (es : List (ℕ × ℕ)) → 0 < length (items_of es) → 0 < length es
some_ratio [] some = absurd (omega arith)
some_ratio (e ∷ es) some = omega arith
