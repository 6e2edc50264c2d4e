-- The entries of the counts, as the finite map that contracts see.
use Rattle.std.proofs.Common.{All, arith, ◌≡◌, ℕ, ◌<◌, Bool, true, false, cond, List, [], ◌∷◌, length, Some, None, refl, sym, ap, subst, ◌∙◌}
use Rattle.std.specs.Prelude.{T, ◌&&◌, unwrap_or}
use Rattle.std.specs.Ordering.{nat_cmp, is_lt, eq_by_cmp}
use Rattle.std.specs.declared.cmp.Ordering.TheVariants.{Less}
use Rattle.std.specs.Cmp.{nat_cmp_total, eq_by_cmp_equiv}
use Rattle.std.specs.FinMap as map
use Rattle.std.specs.FinMap.{nat_cmp-IsAntisymmetric, entries-from_sorted, same_map, get-from_sorted, get-insert, get-remove, len-entries, empty_of_len}
use Rattle.std.specs.FinMap.Entries.{find, is_sorted, below_all}
use Rattle.std.specs.List.{AllByRecursion}
use Rattle.std.specs.List.Sorted.{IsStrictlySortedBy}
use Rattle.std.specs.Map.{keys_of, values_of, lookup}
use Rattle.std.proofs.lemmas.List.Elements.{All-cons, All-nil, All-tail}
use Rattle.recip_sum.specs.Kept.{IsRatio}
use Rattle.std.specs.BTreeMap.{is_at}
use Rattle.recip_sum.specs.Counts.{count_of, items}
use Rattle.recip_sum.specs.Items.{counted, items_of}

below_all_keys : (x : ℕ) (es : List (ℕ × ℕ)) → AllByRecursion (λ y. nat_cmp x y ≡ Less) (keys_of es)
    → T (below_all nat_cmp x es)
below_all_keys x [] h = tt
below_all_keys x (e ∷ es) h = subst (λ o. T (is_lt o && below_all nat_cmp x es)) (sym h.0)
    (below_all_keys x es h.1)

both : (a b : Bool) → T a → T b → T (a && b)
both true b p q = q
both false b p q = p

pub is_sorted-entries : (es : List (ℕ × ℕ)) → IsStrictlySortedBy nat_cmp (keys_of es)
    → T (is_sorted nat_cmp es)
unfolding IsStrictlySortedBy
is_sorted-entries [] h = tt
is_sorted-entries (e ∷ es) h = both _ _ (below_all_keys e.0 es h.0) (is_sorted-entries es h.1)

-- the map that contracts see
abbrev pub seen : List (ℕ × ℕ) → map.FinMap nat_cmp ℕ
seen es = map.from_sorted es

module _ (es : List (ℕ × ℕ)) (ordered : IsStrictlySortedBy nat_cmp (keys_of es)) where
  pub entries-seen : map.entries (seen es) ≡ es
  entries-seen = entries-from_sorted nat_cmp es (is_sorted-entries es ordered)

  pub items-seen : items (seen es) ≡ items_of es
  items-seen = ap items_of entries-seen

  pub len-seen : map.len (seen es) ≡ length es
  len-seen = len-entries (seen es) ∙ ap length entries-seen

  pub seen_none : es ≡ [] → seen es ≡ map.empty
  seen_none none = empty_of_len (seen es) (len-seen ∙ ap length none)

  pub items_none : es ≡ [] → items (seen es) ≡ []
  items_none none = items-seen ∙ ap items_of none

find-lookup : (q : ℕ) (es : List (ℕ × ℕ)) → find nat_cmp q es ≡ lookup (is_at (nat_cmp q)) es
find-lookup q [] = refl
find-lookup q (e ∷ es) = ap (λ o. cond (eq_by_cmp nat_cmp q e.0) (Some e.1) o) (find-lookup q es)

pub get-seen : (es : List (ℕ × ℕ)) (q : ℕ) → IsStrictlySortedBy nat_cmp (keys_of es)
    → map.get (seen es) q ≡ lookup (is_at (nat_cmp q)) es
get-seen es q ordered = get-from_sorted nat_cmp es q (is_sorted-entries es ordered) ∙ find-lookup q es

pub count_of-seen : (es : List (ℕ × ℕ)) (q : ℕ) → IsStrictlySortedBy nat_cmp (keys_of es)
    → count_of (seen es) q ≡ counted q es
count_of-seen es q ordered = ap (λ o. unwrap_or o 0) (get-seen es q ordered)

pub counted-positive : (es : List (ℕ × ℕ)) (ratio : ℕ) (counts : map.FinMap nat_cmp ℕ)
    → IsStrictlySortedBy nat_cmp (keys_of es) → seen es ≡ counts → 0 < count_of counts ratio
    → 0 < counted ratio es
counted-positive es ratio counts ordered is there =
    subst (λ n. 0 < n) (ap (λ m. count_of m ratio) (sym is) ∙ count_of-seen es ratio ordered) there

-- the map after a key's value changed
module _ (es fs : List (ℕ × ℕ)) (ordered : IsStrictlySortedBy nat_cmp (keys_of es))
    (still : IsStrictlySortedBy nat_cmp (keys_of fs)) (key : ℕ) where
  pub insert-seen : (value : ℕ)
      → ((q : ℕ) → lookup (is_at (nat_cmp q)) fs ≡ cond (is_at (nat_cmp key) q) (Some value)
      (lookup (is_at (nat_cmp q)) es)) → seen fs ≡ map.insert (seen es) key value
  insert-seen value updates = same_map nat_cmp_total nat_cmp-IsAntisymmetric (seen fs)
      (map.insert (seen es) key value) (λ q.
      get-seen fs q still ∙ updates q ∙ ap (λ o. cond (is_at (nat_cmp key) q) (Some value) o)
      (sym (get-seen es q ordered))
      ∙ ap (λ b. cond b (Some value) (map.get (seen es) q)) ((eq_by_cmp_equiv nat_cmp_total).symm key q)
      ∙ sym (get-insert nat_cmp_total (seen es) key value q))

  pub remove-seen : ((q : ℕ) → lookup (is_at (nat_cmp q)) fs ≡ cond (is_at (nat_cmp key) q) None
      (lookup (is_at (nat_cmp q)) es)) → seen fs ≡ map.remove (seen es) key
  remove-seen updates = same_map nat_cmp_total nat_cmp-IsAntisymmetric (seen fs) (map.remove (seen es) key)
      (λ q.
      get-seen fs q still ∙ updates q ∙ ap (λ o. cond (is_at (nat_cmp key) q) None o)
      (sym (get-seen es q ordered))
      ∙ ap (λ b. cond b None (map.get (seen es) q)) ((eq_by_cmp_equiv nat_cmp_total).symm key q)
      ∙ sym (get-remove nat_cmp_total (seen es) key q))

-- an entry of a positive number of items of a positive ratio
abbrev pub IsCounted : ℕ × ℕ → Type 0
IsCounted e = (0 < e.0) × (0 < e.1)

pub All-counted : (es : List (ℕ × ℕ)) → All IsRatio (keys_of es) → All (λ count. 0 < count) (values_of es)
    → All IsCounted es
All-counted [] ratios positive = All-nil IsCounted
All-counted (e ∷ es) ratios positive =
    All-cons IsCounted e es ((ratios 0 e.0 (omega arith)).0, positive 0 e.1 (omega arith))
    (All-counted es (All-tail IsRatio e.0 (keys_of es) ratios)
    (All-tail (λ count. 0 < count) e.1 (values_of es) positive))
