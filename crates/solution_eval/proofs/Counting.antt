-- the ratios on each wire, counted net by net
use Rattle.std.proofs.Common.{◌≡◌, ◌≢◌, ℕ, suc, ◌+◌, ◌^◌, ◌<◌, ◌≤◌, cond, List, [], ◌∷◌, ◌++◌, length, get_or, take, sym, ap, ◌∙◌, subst, refl, inl, inr, arith}
use Rattle.std.specs.Prelude.{All, AllPairs, Bool, filter, slice_set, ◌==◌}
use Rattle.std.specs.Ordering.{nat_cmp}
use Rattle.std.specs.FinMap as map
use Rattle.std.proofs.lemmas.Bool.{eq-eqb, ne_eqb, cases_eq, cond-true, cond-false}
use Rattle.std.proofs.lemmas.List.{append-nil, append_assoc, map-append, length-append, length-map, length-take, take_more, get_or-map, get_or-take, get_or_default, get_or-set_same, get_or-set_other, get_or_push, get_or_append_left, length_push}
use Rattle.std.proofs.lemmas.List.Elements.{filter_more, All-head, All-tail, All-take}
use Rattle.tdm_problem.specs.declared.solution.WireUse.{WireUse}
use Rattle.tdm_problem.specs.Routing.{Routing, uses_of, wires_of, ratios_of, ratios_on}
use Rattle.tdm_problem.specs.Board.{Board}
use Rattle.tdm_problem.specs.Fit.{FitsLanes}
use Rattle.tdm_problem.specs.Legal.{IsEvenRatio}
use Rattle.recip_sum.specs.Counts.{items}
use Rattle.recip_sum.specs.Items.{SameReciprocals}
use Rattle.recip_sum.proofs.Same.{SameReciprocals-refl, SameReciprocals-sym, SameReciprocals-trans, SameReciprocals-cons, SameReciprocals-to_front, SameReciprocals-more, FitsLanes-same}
use Rattle.solution_eval.specs.Counted.{items_at, CountsRatios, IsWanted}
use Rattle.solution_eval.specs.Violations.{IsFitting}
use Rattle.solution_eval.proofs.Filtered.{filter_none}

-- the ratios on a wire, with one use more
ratios_more : (uses : List WireUse) (i : ℕ) (d : WireUse) (e : ℕ) → i < length uses
    → ratios_of (filter (λ u. u.wire == e) (take (i + 1) uses))
    ≡ ratios_of (filter (λ u. u.wire == e) (take i uses))
    ++ ratios_of (cond ((get_or uses i d).wire == e) (get_or uses i d ∷ []) [])
ratios_more uses i d e inside =
    ap ratios_of (filter_more (λ u. u.wire == e) uses i d inside)
    ∙ map-append (λ (u : WireUse). u.ratio) (filter (λ u. u.wire == e) (take i uses))
    (cond ((get_or uses i d).wire == e) (get_or uses i d ∷ []) [])

ratios_here : (uses : List WireUse) (i : ℕ) (d : WireUse) (e : ℕ) → i < length uses
    → (get_or uses i d).wire ≡ e → ratios_of (filter (λ u. u.wire == e) (take (i + 1) uses))
    ≡ ratios_of (filter (λ u. u.wire == e) (take i uses)) ++ (get_or uses i d).ratio ∷ []
ratios_here uses i d e inside same =
    ratios_more uses i d e inside
    ∙ ap (λ us. ratios_of (filter (λ u. u.wire == e) (take i uses)) ++ ratios_of us)
    (cond-true ((get_or uses i d).wire == e) (get_or uses i d ∷ []) []
    (eq-eqb (get_or uses i d).wire e same))

ratios_elsewhere : (uses : List WireUse) (i : ℕ) (d : WireUse) (e : ℕ) → i < length uses
    → (get_or uses i d).wire ≢ e → ratios_of (filter (λ u. u.wire == e) (take (i + 1) uses))
    ≡ ratios_of (filter (λ u. u.wire == e) (take i uses))
ratios_elsewhere uses i d e inside other =
    ratios_more uses i d e inside
    ∙ (ap (λ us. ratios_of (filter (λ u. u.wire == e) (take i uses)) ++ ratios_of us)
    (cond-false ((get_or uses i d).wire == e) (get_or uses i d ∷ []) []
    (ne_eqb (get_or uses i d).wire e other))
    ∙ append-nil (ratios_of (filter (λ u. u.wire == e) (take i uses))))

-- one use more is counted
pub counted_more : (wanted : List Bool) (before counts : List (map.FinMap nat_cmp ℕ))
    (x new : map.FinMap nat_cmp ℕ) (uses : List WireUse) (i : ℕ) (d : WireUse) → i < length uses
    → length counts ≡ length before → (get_or uses i d).wire < length before
    → SameReciprocals (items new) ((get_or uses i d).ratio ∷ items (get_or counts (get_or uses i d).wire x))
    → ((e : ℕ) → e < length before → IsWanted wanted e
    → SameReciprocals (items_at counts e)
    (items_at before e ++ ratios_of (filter (λ u. u.wire == e) (take i uses)))) → (e : ℕ) → e < length before
    → IsWanted wanted e → SameReciprocals (items_at (slice_set counts (get_or uses i d).wire new) e)
    (items_at before e ++ ratios_of (filter (λ u. u.wire == e) (take (i + 1) uses)))
counted_more wanted before counts x new uses i d inside size there same so_far e e_inside e_wanted =
    elim (cases_eq (get_or uses i d).wire e) [
      | inl here ↦
          let at : items_at (slice_set counts (get_or uses i d).wire new) e ≡ items new =
          ap items (ap (λ (w : ℕ). get_or (slice_set counts w new) e map.empty) here
          ∙ get_or-set_same counts e new map.empty (omega arith)) in
          let was : items (get_or counts (get_or uses i d).wire x) ≡ items_at counts e =
          ap items (ap (λ (w : ℕ). get_or counts w x) here
          ∙ get_or_default counts e x map.empty (omega arith)) in
          let step : SameReciprocals (items new) ((get_or uses i d).ratio ∷ items_at counts e) =
          subst (λ xs. SameReciprocals (items new) ((get_or uses i d).ratio ∷ xs)) was same in
          let more : SameReciprocals (items new)
          ((items_at before e ++ ratios_of (filter (λ u. u.wire == e) (take i uses)))
          ++ (get_or uses i d).ratio ∷ []) =
          SameReciprocals-more (items_at counts e) (items new)
          (items_at before e ++ ratios_of (filter (λ u. u.wire == e) (take i uses)))
          (get_or uses i d).ratio (so_far e e_inside e_wanted) step in
          subst (λ xs. SameReciprocals xs
          (items_at before e ++ ratios_of (filter (λ u. u.wire == e) (take (i + 1) uses)))) (sym at)
          (subst (λ ys. SameReciprocals (items new) ys)
          (append_assoc (items_at before e) (ratios_of (filter (λ u. u.wire == e) (take i uses)))
          ((get_or uses i d).ratio ∷ [])
          ∙ ap (λ rs. items_at before e ++ rs) (sym (ratios_here uses i d e inside here)))
          more)
      | inr elsewhere ↦
          let at : items_at (slice_set counts (get_or uses i d).wire new) e ≡ items_at counts e =
          ap items (get_or-set_other counts (get_or uses i d).wire e new map.empty
          (λ same_wire. elsewhere (sym same_wire))) in
          subst (λ xs. SameReciprocals xs
          (items_at before e ++ ratios_of (filter (λ u. u.wire == e) (take (i + 1) uses)))) (sym at)
          (subst (λ rs. SameReciprocals (items_at counts e) (items_at before e ++ rs))
          (sym (ratios_elsewhere uses i d e inside elsewhere)) (so_far e e_inside e_wanted))
    ]

-- a use of a wire that is not wanted is passed over
pub counted_passed : (wanted : List Bool) (before counts : List (map.FinMap nat_cmp ℕ)) (uses : List WireUse)
    (i : ℕ) (d : WireUse) → i < length uses → ¬ IsWanted wanted (get_or uses i d).wire
    → ((e : ℕ) → e < length before → IsWanted wanted e
    → SameReciprocals (items_at counts e)
    (items_at before e ++ ratios_of (filter (λ u. u.wire == e) (take i uses)))) → (e : ℕ) → e < length before
    → IsWanted wanted e → SameReciprocals (items_at counts e)
    (items_at before e ++ ratios_of (filter (λ u. u.wire == e) (take (i + 1) uses)))
counted_passed wanted before counts uses i d inside passed so_far e e_inside e_wanted =
    subst (λ rs. SameReciprocals (items_at counts e) (items_at before e ++ rs))
    (sym (ratios_elsewhere uses i d e inside
    (λ same. passed (subst (λ (w : ℕ). IsWanted wanted w) (sym same) e_wanted))))
    (so_far e e_inside e_wanted)

-- no use before place i has its wire
none_before : (uses : List WireUse) (i : ℕ) (d : WireUse) → i < length uses
    → AllPairs (λ x y. x ≢ y) (wires_of uses) → filter (λ u. u.wire == (get_or uses i d).wire) (take i uses)
    ≡ []
none_before uses i d inside distinct = filter_none (λ u. u.wire == (get_or uses i d).wire) (take i uses)
    (λ k x earlier.
    let k_before : k < i = omega (arith, length-take i uses) in
    let at_k : get_or (take i uses) k x ≡ get_or uses k x = get_or-take i uses k x k_before in
    let k_wire : get_or (wires_of uses) k 0 ≡ (get_or (take i uses) k x).wire =
    get_or-map (λ (u : WireUse). u.wire) uses k x 0 (omega arith)
    ∙ ap (λ (u : WireUse). u.wire) (sym at_k) in
    let i_wire : get_or (wires_of uses) i 0 ≡ (get_or uses i d).wire =
    get_or-map (λ (u : WireUse). u.wire) uses i d 0 inside in
    ne_eqb (get_or (take i uses) k x).wire (get_or uses i d).wire
    (λ same. distinct k i 0 k_before (omega (arith, length-map uses (λ (u : WireUse). u.wire))) (k_wire
    ∙ (same ∙ sym i_wire))))

-- at the wire of the use at i there is room still
pub room_here : (wanted : List Bool) (before counts : List (map.FinMap nat_cmp ℕ)) (x : map.FinMap nat_cmp ℕ)
    (uses : List WireUse) (i : ℕ) (d : WireUse) → i < length uses → length counts ≡ length before
    → (get_or uses i d).wire < length before → AllPairs (λ x y. x ≢ y) (wires_of uses)
    → IsWanted wanted (get_or uses i d).wire → ((e : ℕ) → e < length before → IsWanted wanted e
    → SameReciprocals (items_at counts e)
    (items_at before e ++ ratios_of (filter (λ u. u.wire == e) (take i uses))))
    → ((e : ℕ) → e < length before → IsWanted wanted e → length (items_at before e) < 2 ^ 20)
    → length (items (get_or counts (get_or uses i d).wire x)) < 2 ^ 20
room_here wanted before counts x uses i d inside size there distinct here so_far room =
    let was : items (get_or counts (get_or uses i d).wire x) ≡ items_at counts (get_or uses i d).wire =
    ap items (get_or_default counts (get_or uses i d).wire x map.empty (omega arith)) in
    let lengths : length (items_at counts (get_or uses i d).wire)
    ≡ length (items_at before (get_or uses i d).wire
    ++ ratios_of (filter (λ u. u.wire == (get_or uses i d).wire) (take i uses))) =
    (so_far (get_or uses i d).wire there here).lengths in
    let none : items_at before (get_or uses i d).wire
    ++ ratios_of (filter (λ u. u.wire == (get_or uses i d).wire) (take i uses))
    ≡ items_at before (get_or uses i d).wire =
    ap (λ us. items_at before (get_or uses i d).wire ++ ratios_of us) (none_before uses i d inside distinct)
    ∙ append-nil (items_at before (get_or uses i d).wire) in
    let same : length (items (get_or counts (get_or uses i d).wire x))
    ≡ length (items_at before (get_or uses i d).wire) = ap length was ∙ (lengths ∙ ap length none) in
    omega (arith, room (get_or uses i d).wire there here)

-- what is counted the same, still is with the same behind it
same_behind : (xs ys zs : List ℕ) → SameReciprocals xs ys → SameReciprocals (xs ++ zs) (ys ++ zs)
same_behind xs ys [] same = subst (λ l. SameReciprocals l (ys ++ [])) (sym (append-nil xs))
    (subst (λ l. SameReciprocals xs l) (sym (append-nil ys)) same)
same_behind xs ys (z ∷ zs) same =
    SameReciprocals-trans (xs ++ z ∷ zs) (z ∷ (xs ++ zs)) (ys ++ z ∷ zs) (SameReciprocals-to_front xs z zs)
    (SameReciprocals-trans (z ∷ (xs ++ zs)) (z ∷ (ys ++ zs)) (ys ++ z ∷ zs)
    (SameReciprocals-cons z (xs ++ zs) (ys ++ zs) (same_behind xs ys zs same))
    (SameReciprocals-sym (ys ++ z ∷ zs) (z ∷ (ys ++ zs)) (SameReciprocals-to_front ys z zs)))

ratios_on-append : (some more : Routing) (e : ℕ) → ratios_on (some ++ more) e ≡ ratios_on some e
    ++ ratios_on more e
ratios_on-append [] more e = refl
ratios_on-append (uses ∷ some) more e =
    ap (λ rs. ratios_of (filter (λ u. u.wire == e) uses) ++ rs) (ratios_on-append some more e)
    ∙ sym (append_assoc (ratios_of (filter (λ u. u.wire == e) uses)) (ratios_on some e) (ratios_on more e))

-- the ratios on a wire, with one net more
ratios_on-more : (routing : Routing) (n : ℕ) (uses : List WireUse) (e : ℕ) → n < length routing
    → uses_of routing n ≡ uses → ratios_on (take (n + 1) routing) e ≡ ratios_on (take n routing) e
    ++ ratios_of (filter (λ u. u.wire == e) uses)
ratios_on-more routing n uses e inside is =
    ap (λ r. ratios_on r e) (take_more routing n [] inside ∙ ap (λ us. take n routing ++ us ∷ []) is)
    ∙ (ratios_on-append (take n routing) (uses ∷ []) e
    ∙ ap (λ rs. ratios_on (take n routing) e ++ rs) (append-nil (ratios_of (filter (λ u. u.wire == e) uses))))

-- one net more is counted
pub counts_more : (wanted : List Bool) (routing : Routing) (n wires : ℕ) (uses : List WireUse)
    (counts new_counts : List (map.FinMap nat_cmp ℕ)) → n < length routing → uses_of routing n ≡ uses
    → length new_counts ≡ length counts → ((e : ℕ) → e < length counts → IsWanted wanted e
    → SameReciprocals (items_at new_counts e)
    (items_at counts e ++ ratios_of (filter (λ u. u.wire == e) uses)))
    → CountsRatios wanted (take n routing) wires counts
    → CountsRatios wanted (take (n + 1) routing) wires new_counts
counts_more wanted routing n wires uses counts new_counts inside is size counted so_far = record {
  whole = size ∙ so_far.whole;
  each = λ e e_inside e_wanted.
      subst (λ rs. SameReciprocals (items_at new_counts e) rs)
      (sym (ratios_on-more routing n uses e inside is))
      (SameReciprocals-trans (items_at new_counts e)
      (items_at counts e ++ ratios_of (filter (λ u. u.wire == e) uses)) (ratios_on (take n routing) e
      ++ ratios_of (filter (λ u. u.wire == e) uses))
      (counted e (omega (arith, so_far.whole)) e_wanted)
      (same_behind (items_at counts e) (ratios_on (take n routing) e)
      (ratios_of (filter (λ u. u.wire == e) uses)) (so_far.each e e_inside e_wanted)));
}

-- a net has a wire at most once
at_most_once : (uses : List WireUse) (e : ℕ) → AllPairs (λ x y. x ≢ y) (wires_of uses)
    → length (filter (λ u. u.wire == e) uses) ≤ 1
at_most_once [] e distinct = omega arith
at_most_once (u ∷ uses) e distinct =
    let rest : AllPairs (λ x y. x ≢ y) (wires_of uses) =
    λ i j d below inside. distinct (suc i) (suc j) d (omega arith) (omega arith) in
    elim (cases_eq u.wire e) [
      | inl same ↦
          let none : filter (λ x. x.wire == e) uses ≡ [] = filter_none (λ x. x.wire == e) uses
          (λ k x inside. ne_eqb (get_or uses k x).wire e (λ found. distinct 0 (suc k) 0 (omega arith)
          (omega (arith, length-map uses (λ (y : WireUse). y.wire)))
          (same ∙ (sym found ∙ sym (get_or-map (λ (y : WireUse). y.wire) uses k x 0 inside))))) in
          let kept : filter (λ x. x.wire == e) (u ∷ uses) ≡ u ∷ filter (λ x. x.wire == e) uses =
          cond-true (u.wire == e) (u ∷ filter (λ x. x.wire == e) uses) (filter (λ x. x.wire == e) uses)
          (eq-eqb u.wire e same) in
          omega (arith, ap length kept, ap length none)
      | inr other ↦
          let dropped : filter (λ x. x.wire == e) (u ∷ uses) ≡ filter (λ x. x.wire == e) uses =
          cond-false (u.wire == e) (u ∷ filter (λ x. x.wire == e) uses) (filter (λ x. x.wire == e) uses)
          (ne_eqb u.wire e other) in
          omega (arith, ap length dropped, at_most_once uses e rest)
    ]

-- a wire has no more ratios than there are nets
pub ratios_on-few : (routing : Routing) (e : ℕ)
    → All (λ uses. AllPairs (λ x y. x ≢ y) (wires_of uses)) routing → length (ratios_on routing e)
    ≤ length routing
ratios_on-few [] e distinct = omega arith
ratios_on-few (uses ∷ routing) e distinct =
    let here : length (filter (λ u. u.wire == e) uses) ≤ 1 =
    at_most_once uses e (All-head (λ us. AllPairs (λ x y. x ≢ y) (wires_of us)) uses routing distinct) in
    let rest : length (ratios_on routing e) ≤ length routing =
    ratios_on-few routing e (All-tail (λ us. AllPairs (λ x y. x ≢ y) (wires_of us)) uses routing
    distinct) in
    omega (
      arith,
      length-append (ratios_of (filter (λ u. u.wire == e) uses)) (ratios_on routing e),
      length-map (filter (λ u. u.wire == e) uses) (λ (u : WireUse). u.ratio),
    )

-- the nets before net n leave room for one ratio more on each wire
pub room_at : (wanted : List Bool) (routing : Routing) (n wires : ℕ)
    (counts handed : List (map.FinMap nat_cmp ℕ)) → n < length routing → length routing ≤ 2 ^ 20
    → All (λ uses. AllPairs (λ x y. x ≢ y) (wires_of uses)) routing → handed ≡ counts
    → CountsRatios wanted (take n routing) wires counts → (e : ℕ) → e < length handed → IsWanted wanted e
    → length (items_at handed e) < 2 ^ 20
room_at wanted routing n wires counts handed inside few distinct is so_far e e_inside e_wanted =
    let e_there : e < wires = omega (arith, ap length is, so_far.whole) in
    let most : length (ratios_on (take n routing) e) ≤ length (take n routing) =
    ratios_on-few (take n routing) e (All-take (λ uses. AllPairs (λ x y. x ≢ y) (wires_of uses)) n routing
    distinct) in
    omega (
      arith,
      ap (λ cs. length (items_at cs e)) is,
      (so_far.each e e_there e_wanted).lengths,
      length-take n routing,
    )

-- the ratios of a net are positive where they are even
pub positive_ratios : (uses row : List WireUse) → uses ≡ row → All IsEvenRatio (ratios_of uses)
    → All (λ (u : WireUse). 0 < u.ratio) row
positive_ratios uses row is even = λ k d inside.
    let same : ratios_of uses ≡ ratios_of row = ap ratios_of is in
    let half : IsEvenRatio (get_or (ratios_of row) k 0) =
    subst (λ rs. IsEvenRatio (get_or rs k 0)) same
    (even k 0 (omega (arith, length-map row (λ (u : WireUse). u.ratio), ap length same))) in
    omega (arith, half.1, half.2, get_or-map (λ (u : WireUse). u.ratio) row k d 0 inside)

-- one more wire without items
pub no_counts_more : (wanted : List Bool) (n : ℕ) (counts new_counts : List (map.FinMap nat_cmp ℕ))
    (none : map.FinMap nat_cmp ℕ) → new_counts ≡ counts ++ none ∷ [] → items none ≡ []
    → CountsRatios wanted [] n counts → CountsRatios wanted [] (n + 1) new_counts
no_counts_more wanted n counts new_counts none is empty so_far = record {
  whole = ap length is ∙ (length_push counts none ∙ omega (arith, so_far.whole));
  each = λ e inside e_wanted. elim (cases_eq e n) [
    | inl last ↦
        let at : items_at new_counts e ≡ [] =
        ap (λ cs. items_at cs e) is ∙ (ap (λ (k : ℕ). items_at (counts ++ none ∷ []) k) last
        ∙ (ap items (get_or_push counts none map.empty n so_far.whole) ∙ empty)) in
        subst (λ xs. SameReciprocals xs []) (sym at) (SameReciprocals-refl [])
    | inr earlier ↦
        let at : items_at new_counts e ≡ items_at counts e =
        ap (λ cs. items_at cs e) is
        ∙ ap items (get_or_append_left counts (none ∷ []) map.empty e (omega (arith, so_far.whole))) in
        subst (λ xs. SameReciprocals xs []) (sym at) (so_far.each e (omega arith) e_wanted)
  ];
}

pub no_counts_none : (wanted : List Bool) (counts : List (map.FinMap nat_cmp ℕ)) → counts ≡ []
    → CountsRatios wanted [] 0 counts
no_counts_none wanted counts is = record {
  whole = ap length is;
  each = λ e inside e_wanted. absurd (omega arith);
}

-- a wire fits where its items fit, and the other way round
pub fitting_here : (board : Board) (routing : Routing) (counts : List (map.FinMap nat_cmp ℕ))
    (x : map.FinMap nat_cmp ℕ) (e : ℕ) → e < length counts
    → SameReciprocals (items_at counts e) (ratios_on routing e) → FitsLanes (items (get_or counts e x)) 1
    → IsFitting board routing e
fitting_here board routing counts x e inside same fits =
    FitsLanes-same (items_at counts e) (ratios_on routing e) 1 same
    (subst (λ xs. FitsLanes xs 1) (ap items (get_or_default counts e x map.empty inside)) fits)

pub fitting_there : (board : Board) (routing : Routing) (counts : List (map.FinMap nat_cmp ℕ))
    (x : map.FinMap nat_cmp ℕ) (e : ℕ) → e < length counts
    → SameReciprocals (items_at counts e) (ratios_on routing e) → IsFitting board routing e
    → FitsLanes (items (get_or counts e x)) 1
fitting_there board routing counts x e inside same fits =
    subst (λ xs. FitsLanes xs 1) (ap items (get_or_default counts e map.empty x inside))
    (FitsLanes-same (ratios_on routing e) (items_at counts e) 1 (SameReciprocals-sym (items_at counts e)
    (ratios_on routing e) same) fits)

-- the counts of another wire stay
pub items_elsewhere : (counts : List (map.FinMap nat_cmp ℕ)) (new : map.FinMap nat_cmp ℕ) (e k : ℕ) → k ≢ e
    → items_at (slice_set counts e new) k ≡ items_at counts k
items_elsewhere counts new e k other = ap items (get_or-set_other counts e k new map.empty other)
