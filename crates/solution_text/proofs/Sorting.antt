-- Uses with different wires have one order in which their wires rise, and `by_wire` puts them into it.
use Rattle.std.proofs.Common.{◌≡◌, ◌≢◌, ℕ, zero, suc, ◌<◌, ◌≤◌, Bool, true, false, cond, ltb, nat_eq, List, [], ◌∷◌, length, get_or, All, Contains, ◌⊎◌, inl, inr, ⊎_elim, refl, sym, ap, subst, arith}
use Rattle.std.specs.List.{IsDistinct}
use Rattle.std.specs.Ordering.{nat_cmp}
use Rattle.std.specs.Cmp.{nat_eq_equiv}
use Rattle.std.specs.List.Sorted.{IsPermutation, IsStrictlyIncreasing, IsNonDecreasingBy, IsStrictlySortedBy}
use Rattle.std.proofs.lemmas.List.{get_or-map, length-map}
use Rattle.std.proofs.lemmas.List.Elements.{All-from_recursion, All-nil, All-cons, All-head, All-tail, All-contains, All-weaker}
use Rattle.std.proofs.lemmas.List.Sorted.{IsPermutation-refl, IsPermutation-cons, IsPermutation-trans, IsPermutation-sym, IsPermutation-swap, IsPermutation-map, Contains-permutation, All-permutation}
use Rattle.std.proofs.lemmas.Map.Keys.{IsDistinct-head, IsDistinct-tail, IsDistinct-IsPermutation, IsStrictlyIncreasing-from_distinct, sorted_from_strictly_increasing, below_from_sorted, sorted_tail}
use Rattle.std.proofs.lemmas.Bool.{ltb-true, ltb-false, eqb-false, lt-ltb}
use Rattle.tdm_problem.specs.declared.solution.WireUse.{WireUse}
use Rattle.tdm_problem.specs.Routing.{wires_of}
use Rattle.solution_text.specs.Reading.{with_use, by_wire}

-- each use's wire is below those of all later uses
abbrev pub Rising : List WireUse → Type 0
Rising [] = Unit {0}
Rising (u ∷ uses) = All (λ v. u.wire < v.wire) uses × Rising uses

-- ---- one order

-- what a list contains is its head or is in its tail
contains_cons : (y u : WireUse) (ys : List WireUse) (k : ℕ) → k < length (y ∷ ys) → get_or (y ∷ ys) k u ≡ u
    → (y ≡ u) ⊎ Contains ys u
contains_cons y u ys zero lt e = inl e
contains_cons y u ys (suc k) lt e = inr (k, omega arith, e)

contains_head : (y : WireUse) (ys : List WireUse) → Contains (y ∷ ys) y
contains_head y ys = (0, omega arith, refl)

contains_tail : (y u : WireUse) (ys : List WireUse) → Contains ys u → Contains (y ∷ ys) u
contains_tail y u ys c = (suc c.0, omega arith, c.2)

no_member : (u : WireUse) (k : ℕ) → k < length {A = WireUse} [] → ⊥
no_member u k lt = omega arith

-- two rising lists with the same heads
same_heads : (x y : WireUse) (xs ys : List WireUse) → Rising (x ∷ xs) → Rising (y ∷ ys) → Contains (y ∷ ys) x
    → Contains (x ∷ xs) y → y ≡ x
same_heads x y xs ys p q c d =
    ⊎_elim (λ (e : y ≡ x). e)
    (λ (h : Contains ys x). ⊎_elim (λ (e : x ≡ y). sym e)
    (λ (g : Contains xs y). let a : y.wire < x.wire = All-contains (λ v. y.wire < v.wire) ys x q.0 h in
    let b : x.wire < y.wire = All-contains (λ v. x.wire < v.wire) xs y p.0 g in absurd (omega arith))
    (contains_cons x y xs d.0 d.1 d.2))
    (contains_cons y x ys c.0 c.1 c.2)

-- what both contain behind their one head
in_tail : (x : WireUse) (xs ys : List WireUse) (u : WireUse) → All (λ v. x.wire < v.wire) xs → Contains xs u
    → Contains (x ∷ ys) u → Contains ys u
in_tail x xs ys u low h c =
    ⊎_elim (λ (e : x ≡ u). let a : x.wire < u.wire = All-contains (λ v. x.wire < v.wire) xs u low h in
    let b : x.wire ≡ u.wire = ap (λ (v : WireUse). v.wire) e in absurd (omega arith))
    (λ (g : Contains ys u). g)
    (contains_cons x u ys c.0 c.1 c.2)

-- rising lists of the same uses are the same
pub same_rising : (xs ys : List WireUse) → Rising xs → Rising ys
    → ((u : WireUse) → Contains xs u → Contains ys u) → ((u : WireUse) → Contains ys u → Contains xs u)
    → ys ≡ xs
same_rising [] [] p q there back = refl
same_rising [] (y ∷ ys) p q there back = let c : Contains [] y = back y (contains_head y ys) in
    absurd (no_member y c.0 c.1)
same_rising (x ∷ xs) [] p q there back = let c : Contains [] x = there x (contains_head x xs) in
    absurd (no_member x c.0 c.1)
same_rising (x ∷ xs) (y ∷ ys) p q there back =
    let e : y ≡ x = same_heads x y xs ys p q (there x (contains_head x xs)) (back y (contains_head y ys)) in
    let P : WireUse → Type 0 = λ v. All (λ w. v.wire < w.wire) ys in
    let low : All (λ w. x.wire < w.wire) ys = subst P e q.0 in
    let tails : ys ≡ xs = same_rising xs ys p.1 q.1
    (λ u h. in_tail x xs ys u p.0 h (let Q : WireUse → Type 0 = λ v. Contains (v ∷ ys) u in
    subst Q e (there u (contains_tail x u xs h))))
    (λ u h. in_tail x ys xs u low h (back u (contains_tail y u ys h))) in
    cc

-- ---- `by_wire` gives that order

with_use-moves : (u : WireUse) (uses : List WireUse) → IsPermutation (u ∷ uses) (with_use u uses)
with_use-moves u [] = IsPermutation-refl (u ∷ [])
with_use-moves u (v ∷ uses) =
    elim (ltb u.wire v.wire) as
    (λ b. IsPermutation (u ∷ v ∷ uses) (cond b (u ∷ v ∷ uses) (v ∷ with_use u uses))) [
      | true ↦ IsPermutation-refl (u ∷ v ∷ uses)
      | false ↦ IsPermutation-trans (u ∷ v ∷ uses) (v ∷ u ∷ uses) (v ∷ with_use u uses)
          (IsPermutation-swap (u ∷ v ∷ uses) (v ∷ u ∷ uses) 0 1 (omega arith) (omega arith) refl)
          (IsPermutation-cons v (u ∷ uses) (with_use u uses) (with_use-moves u uses))
    ]

pub by_wire-moves : (uses : List WireUse) → IsPermutation uses (by_wire uses)
by_wire-moves [] = IsPermutation-refl []
by_wire-moves (u ∷ uses) = IsPermutation-trans (u ∷ uses) (u ∷ by_wire uses) (with_use u (by_wire uses))
    (IsPermutation-cons u uses (by_wire uses) (by_wire-moves uses)) (with_use-moves u (by_wire uses))

with_use-rises_at : (u v : WireUse) (uses : List WireUse) (b : Bool) → ltb u.wire v.wire ≡ b
    → Rising (v ∷ uses) → All (λ w. u.wire ≢ w.wire) (v ∷ uses) → Rising (with_use u uses)
    → Rising (cond b (u ∷ v ∷ uses) (v ∷ with_use u uses))
with_use-rises_at u v uses true e r d tail =
    let lt : u.wire < v.wire = ltb-true u.wire v.wire e in (
      All-cons (λ w. u.wire < w.wire) v uses lt (All-weaker (λ w. v.wire < w.wire) (λ w. u.wire < w.wire)
          (λ w h. omega arith) uses r.0),
      r,
    )
with_use-rises_at u v uses false e r d tail =
    let le : v.wire ≤ u.wire = ltb-false u.wire v.wire e in
    let ne : u.wire ≢ v.wire = All-head (λ w. u.wire ≢ w.wire) v uses d in
    let lt : v.wire < u.wire = omega arith in (
      All-permutation (λ w. v.wire < w.wire) (u ∷ uses) (with_use u uses) (with_use-moves u uses)
          (All-cons (λ w. v.wire < w.wire) u uses lt r.0),
      tail,
    )

with_use-rises : (u : WireUse) (uses : List WireUse) → Rising uses → All (λ v. u.wire ≢ v.wire) uses
    → Rising (with_use u uses)
with_use-rises u [] r d = (All-nil (λ v. u.wire < v.wire), tt)
with_use-rises u (v ∷ uses) r d = with_use-rises_at u v uses (ltb u.wire v.wire) refl r d
    (with_use-rises u uses r.1 (All-tail (λ w. u.wire ≢ w.wire) v uses d))

-- what holds of each wire holds of the wire of each use
All-of_wires : (P : ℕ → Type 0) (uses : List WireUse) → All P (wires_of uses) → All (λ u. P u.wire) uses
All-of_wires P uses h k d lt =
    let len : k < length (wires_of uses) = rw (length-map uses (λ (u : WireUse). u.wire)) lt in
    subst P (get_or-map (λ (u : WireUse). u.wire) uses k d d.wire lt) (h k d.wire len)

pub by_wire-rises : (uses : List WireUse) → IsDistinct nat_eq (wires_of uses) → Rising (by_wire uses)
by_wire-rises [] d = tt
by_wire-rises (u ∷ uses) d =
    let others : All (λ e. nat_eq u.wire e ≡ false) (wires_of uses) =
    All-from_recursion (λ e. nat_eq u.wire e ≡ false) (wires_of uses)
    (IsDistinct-head nat_eq u.wire (wires_of uses) d) in
    let apart : All (λ v. u.wire ≢ v.wire) uses =
    All-weaker (λ v. nat_eq u.wire v.wire ≡ false) (λ v. u.wire ≢ v.wire) (λ v. eqb-false u.wire v.wire)
    uses (All-of_wires (λ e. nat_eq u.wire e ≡ false) uses others) in
    with_use-rises u (by_wire uses) (by_wire-rises uses (IsDistinct-tail nat_eq u.wire (wires_of uses) d))
    (All-permutation (λ v. u.wire ≢ v.wire) uses (by_wire uses) (by_wire-moves uses) apart)

-- ---- the rising order, by places

rising_from_sorted : (uses : List WireUse) → IsStrictlySortedBy nat_cmp (wires_of uses) → Rising uses
rising_from_sorted [] s = tt
rising_from_sorted (u ∷ uses) s = (
  λ k d lt. let len : suc k < length (wires_of (u ∷ uses)) = simp length-map (omega arith) in
      let below : u.wire < get_or (wires_of uses) k d.wire =
      below_from_sorted (wires_of (u ∷ uses)) 0 (suc k) d.wire s (omega arith) len in
      let P : ℕ → Type 0 = λ e. u.wire < e in
      subst P (get_or-map (λ (v : WireUse). v.wire) uses k d d.wire lt) below,
  rising_from_sorted uses (sorted_tail nat_cmp u.wire (wires_of uses) s),
)

pub rising_from_strictly : (uses : List WireUse) → IsStrictlyIncreasing (wires_of uses) → Rising uses
rising_from_strictly uses h = rising_from_sorted uses (sorted_from_strictly_increasing (wires_of uses) h)

-- a use with a lower wire than all others comes first
with_use-first : (u : WireUse) (uses : List WireUse) → All (λ v. u.wire < v.wire) uses
    → with_use u uses ≡ u ∷ uses
with_use-first u [] h = refl
with_use-first u (v ∷ uses) h =
    let e : ltb u.wire v.wire ≡ true = lt-ltb u.wire v.wire (All-head (λ w. u.wire < w.wire) v uses h) in
    rw e refl

-- wires that rise stand in their order already
pub by_wire-at_rising : (uses : List WireUse) → Rising uses → by_wire uses ≡ uses
by_wire-at_rising [] r = refl
by_wire-at_rising (u ∷ uses) r = rw (by_wire-at_rising uses r.1) (with_use-first u uses r.0)

-- ---- what a sort leaves

-- wires that do not fall, and each once, rise strictly
pub strictly_from_sort : (xs ys : List WireUse) → IsPermutation xs ys → IsDistinct nat_eq (wires_of xs)
    → IsNonDecreasingBy (λ u. u.wire) ys → IsStrictlyIncreasing (wires_of ys)
strictly_from_sort xs ys moves distinct sorted =
    IsStrictlyIncreasing-from_distinct (wires_of ys)
    (λ i j d le lt. let u : WireUse = record { wire = d; ratio = 0 } in
    let lt' : j < length ys = rw length-map at lt in
    let a : get_or (wires_of ys) i d ≡ (get_or ys i u).wire =
    get_or-map (λ (v : WireUse). v.wire) ys i u d (omega arith) in
    let b : get_or (wires_of ys) j d ≡ (get_or ys j u).wire =
    get_or-map (λ (v : WireUse). v.wire) ys j u d lt' in
    let c : (get_or ys i u).wire ≤ (get_or ys j u).wire = sorted i j u le lt' in
    rw (a, b) c)
    (IsDistinct-IsPermutation nat_eq nat_eq_equiv.symm (wires_of xs) (wires_of ys)
    (IsPermutation-map (λ (v : WireUse). v.wire) xs ys moves) distinct)

-- the sorted uses are the uses in the order of their wires
pub by_wire-from_sort : (xs ys : List WireUse) → IsPermutation xs ys → IsDistinct nat_eq (wires_of xs)
    → IsNonDecreasingBy (λ u. u.wire) ys → by_wire xs ≡ ys
by_wire-from_sort xs ys moves distinct sorted =
    let both : IsPermutation ys (by_wire xs) =
    IsPermutation-trans ys xs (by_wire xs) (IsPermutation-sym xs ys moves) (by_wire-moves xs) in
    same_rising ys (by_wire xs)
    (rising_from_strictly ys (strictly_from_sort xs ys moves distinct sorted))
    (by_wire-rises xs distinct)
    (λ u. Contains-permutation ys (by_wire xs) u both)
    (λ u. Contains-permutation (by_wire xs) ys u (IsPermutation-sym ys (by_wire xs) both))
