-- What one item more and one item less do to the counts.
use Rattle.std.proofs.Common.{◌≡◌, ◌≢◌, ℕ, ◌+◌, ◌-◌, ◌<◌, ◌≤◌, ◌^◌, ◌==◌, if◌then◌else◌, true, false, cond, List, ◌∷◌, length, Some, None, arith, refl, sym, ap, subst, ◌∙◌, All}
use Rattle.std.specs.Prelude.{unwrap_or}
use Rattle.std.specs.declared.option.Option.{Option}
use Rattle.std.specs.Ordering.{nat_cmp}
use Rattle.std.specs.FinMap as map
use Rattle.std.specs.List.Sorted.{IsStrictlySortedBy}
use Rattle.std.specs.Map.{keys_of, values_of, lookup, remove_entry, set_value}
use Rattle.std.specs.BTreeMap.{insert_entry, is_at}
use Rattle.std.proofs.lemmas.Bool.{eqb-true, eqb-false}
use Rattle.std.proofs.lemmas.Map.{keys-set_value}
use Rattle.std.proofs.lemmas.Map.Views.{All-keys-insert_entry, All-values-insert_entry, All-map-remove_entry, All-values-set_value}
use Rattle.recip_sum.specs.Counts.{items, with_item, without_item}
use Rattle.recip_sum.specs.Items.{counted, items_of, one_less, SameReciprocals}
use Rattle.recip_sum.specs.Kept.{AreCounts, IsRatio}
use Rattle.recip_sum.specs.Rounded.{floor_of, floor_sum}
use Rattle.std.specs.Prelude.{min}
use Rattle.std.proofs.lemmas.List.Sums.{sum_by-cons}
use Rattle.recip_sum.proofs.Items.{SameReciprocals-insert_entry, SameReciprocals-set_value, SameReciprocals-remove_entry}
use Rattle.recip_sum.proofs.Views.{seen, items-seen, count_of-seen, insert-seen, remove-seen}

some_number : (found : Option ℕ) (n : ℕ) → unwrap_or found 0 ≡ n → 0 < n → found ≡ Some n
some_number None n e h = absurd (omega arith)
some_number (Some m) n e h = ap Some e

-- the two ways to count one less, with what the test says of the count
one_less_by : (P : List (ℕ × ℕ) → Type 0) (ratio : ℕ) (es : List (ℕ × ℕ))
    → (counted ratio es ≡ 1 → P (remove_entry (is_at (nat_cmp ratio)) es))
    → (counted ratio es ≢ 1 → P (set_value (is_at (nat_cmp ratio)) es (counted ratio es - 1)))
    → P (one_less ratio es)
one_less_by P ratio es gone stays =
    elim (counted ratio es == 1) as (λ b. (counted ratio es == 1) ≡ b
    → P (if b then remove_entry (is_at (nat_cmp ratio)) es else set_value (is_at (nat_cmp ratio)) es
    (counted ratio es - 1))) [
      | true ↦ λ is. gone (eqb-true (counted ratio es) 1 is)
      | false ↦ λ is. stays (eqb-false (counted ratio es) 1 is)
    ] refl

module _ (es : List (ℕ × ℕ)) (total floors room : ℕ) (h : AreCounts es total floors room) (ratio : ℕ) where
  pub AreCounts-more : (fs : List (ℕ × ℕ)) (space : ℕ) → total < 2 ^ 20 → IsRatio ratio
      → fs ≡ insert_entry nat_cmp es ratio (counted ratio es + 1) → IsStrictlySortedBy nat_cmp (keys_of fs)
      → length fs + min (length fs) 1 ≤ space → AreCounts fs (total + 1) (floors + floor_of ratio) space
  AreCounts-more fs space few ok is still fits =
      let same = SameReciprocals-insert_entry es ratio h.ordered in
      record {
        ordered = still;
        ratios = subst (λ es. All IsRatio (keys_of es)) (sym is)
            (All-keys-insert_entry nat_cmp ratio (counted ratio es + 1) IsRatio es h.ratios ok);
        positive = subst (λ es. All (λ count. 0 < count) (values_of es)) (sym is)
            (All-values-insert_entry nat_cmp ratio (counted ratio es + 1) (λ count. 0 < count) es h.positive
            (omega arith));
        sum = let s = h.sum in let l = same.lengths in subst (λ es. total + 1 ≡ length (items_of es)) (sym is)
            (omega arith);
        rounded = let f = h.rounded in let l = same.parts floor_of in
            subst (λ es. floors + floor_of ratio ≡ floor_sum (items_of es)) (sym is)
            (omega (arith, sum_by-cons floor_of ratio (items_of es)));
        few = omega arith;
        space = fits;
      }

  pub SameReciprocals-one_less : 0 < counted ratio es
      → SameReciprocals (ratio ∷ items_of (one_less ratio es)) (items_of es)
  SameReciprocals-one_less there = one_less_by (λ fs. SameReciprocals (ratio ∷ items_of fs) (items_of es))
      ratio es
      (λ one. SameReciprocals-remove_entry es ratio (some_number (lookup (is_at (nat_cmp ratio)) es) 1 one
      (omega arith)))
      (λ _. SameReciprocals-set_value es ratio (counted ratio es - 1)
      (some_number (lookup (is_at (nat_cmp ratio)) es) (counted ratio es - 1 + 1) (omega arith)
      (omega arith)))

  pub AreCounts-less : (fs : List (ℕ × ℕ)) → 0 < counted ratio es → fs ≡ one_less ratio es
      → IsStrictlySortedBy nat_cmp (keys_of fs) → length fs ≤ length es
      → AreCounts fs (total - 1) (floors - floor_of ratio) room
  AreCounts-less fs there is still fits =
      let same = SameReciprocals-one_less there in
      let few = h.few in let space = h.space in
      record {
        ordered = still;
        ratios = subst (λ es. All IsRatio (keys_of es)) (sym is)
            (one_less_by (λ fs. All IsRatio (keys_of fs)) ratio es
            (λ _. All-map-remove_entry (is_at (nat_cmp ratio)) (λ e. e.0) IsRatio es h.ratios)
            (λ _. rw (keys-set_value (is_at (nat_cmp ratio)) es (counted ratio es - 1)) h.ratios));
        positive = subst (λ es. All (λ count. 0 < count) (values_of es)) (sym is)
            (one_less_by (λ fs. All (λ count. 0 < count) (values_of fs)) ratio es
            (λ _. All-map-remove_entry (is_at (nat_cmp ratio)) (λ e. e.1) (λ count. 0 < count) es h.positive)
            (λ more. All-values-set_value (is_at (nat_cmp ratio)) (λ count. 0 < count) es
            (counted ratio es - 1) h.positive (omega arith)));
        sum = let s = h.sum in let l = same.lengths in subst (λ es. total - 1 ≡ length (items_of es)) (sym is)
            (omega arith);
        rounded = let f = h.rounded in let l = same.parts floor_of in
            subst (λ es. floors - floor_of ratio ≡ floor_sum (items_of es)) (sym is)
            (omega (arith, sum_by-cons floor_of ratio (items_of (one_less ratio es))));
        few = omega arith;
        space = omega arith;
      }

  -- the same of the map that contracts see
  pub seen-more : (fs : List (ℕ × ℕ)) → IsStrictlySortedBy nat_cmp (keys_of fs)
      → ((q : ℕ) → lookup (is_at (nat_cmp q)) fs ≡ cond (is_at (nat_cmp ratio) q)
      (Some (counted ratio es + 1)) (lookup (is_at (nat_cmp q)) es)) → seen fs ≡ with_item (seen es) ratio
  seen-more fs still updates =
      insert-seen es fs h.ordered still ratio (counted ratio es + 1) updates
      ∙ ap (λ n. map.insert (seen es) ratio (n + 1)) (sym (count_of-seen es ratio h.ordered))

  pub seen-less : (fs : List (ℕ × ℕ)) → IsStrictlySortedBy nat_cmp (keys_of fs)
      → ((q : ℕ) → lookup (is_at (nat_cmp q)) fs ≡ cond (is_at (nat_cmp ratio) q)
      (if counted ratio es == 1 then None else Some (counted ratio es - 1))
      (lookup (is_at (nat_cmp q)) es)) → seen fs ≡ without_item (seen es) ratio
  seen-less fs still updates =
      subst (λ n. seen fs ≡ (if n == 1 then map.remove (seen es) ratio else map.insert (seen es) ratio
      (n - 1))) (sym (count_of-seen es ratio h.ordered))
      (elim (counted ratio es == 1) as
      (λ b. ((q : ℕ) → lookup (is_at (nat_cmp q)) fs ≡ cond (is_at (nat_cmp ratio) q)
      (if b then None else Some (counted ratio es - 1)) (lookup (is_at (nat_cmp q)) es))
      → seen fs ≡ (if b then map.remove (seen es) ratio else map.insert (seen es) ratio
      (counted ratio es - 1))) [
        | true ↦ λ updates. remove-seen es fs h.ordered still ratio updates
        | false ↦ λ updates. insert-seen es fs h.ordered still ratio (counted ratio es - 1) updates
      ] updates)

  pub same-more : (fs : List (ℕ × ℕ)) → IsStrictlySortedBy nat_cmp (keys_of fs)
      → fs ≡ insert_entry nat_cmp es ratio (counted ratio es + 1)
      → SameReciprocals (items (seen fs)) (ratio ∷ items (seen es))
  same-more fs still is =
      subst (λ xs. SameReciprocals xs (ratio ∷ items (seen es))) (sym (items-seen fs still ∙ ap items_of is))
      (subst (λ xs. SameReciprocals (items_of (insert_entry nat_cmp es ratio (counted ratio es + 1)))
      (ratio ∷ xs)) (sym (items-seen es h.ordered)) (SameReciprocals-insert_entry es ratio h.ordered))

  pub same-less : (fs : List (ℕ × ℕ)) → IsStrictlySortedBy nat_cmp (keys_of fs) → 0 < counted ratio es
      → fs ≡ one_less ratio es → SameReciprocals (ratio ∷ items (seen fs)) (items (seen es))
  same-less fs still there is =
      subst (λ xs. SameReciprocals (ratio ∷ xs) (items (seen es)))
      (sym (items-seen fs still ∙ ap items_of is))
      (subst (λ xs. SameReciprocals (ratio ∷ items_of (one_less ratio es)) xs) (sym (items-seen es h.ordered))
      (SameReciprocals-one_less there))
