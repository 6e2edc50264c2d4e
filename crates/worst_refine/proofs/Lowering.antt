-- Lowered ratios leave less room: a ratio that could not be lowered by 2 still cannot.
use Rattle.std.proofs.Common.{◌≡◌, ◌≢◌, ℕ, suc, ◌-◌, ◌<◌, ◌≤◌, true, false, cond, List, [], ◌∷◌, ◌++◌, length, drop, All, arith, refl, sym, ap, subst, inl, inr, ◌∙◌}
use Rattle.std.specs.Prelude.{filter, slice_index, ◌==◌}
use Rattle.std.proofs.lemmas.Bool.{cases_eq, cases_lt}
use Rattle.std.proofs.lemmas.List.{length-map, map-set, set_past}
use Rattle.std.proofs.lemmas.List.Elements.{All-head, All-tail, All-nil, All-cons, All-append, All-set, All-get_or}
use Rattle.tdm_problem.specs.declared.solution.WireUse.{WireUse}
use Rattle.std.specs.Prelude.{AllPairs, Contains}
use Rattle.std.proofs.Common.{get_or}
use Rattle.tdm_problem.specs.Board.{Board}
use Rattle.tdm_problem.specs.Walk.{Joins}
use Rattle.tdm_problem.specs.Legal.{IsLegal, IsEvenRatio, terminals_of}
use Rattle.worst_refine.specs.Fitting.{HasFittingRatios}
use Rattle.worst_refine.specs.Steps.{CannotBeLowered}
use Rattle.tdm_problem.specs.Fit.{FitsLanes}
use Rattle.tdm_problem.specs.Routing.{Routing, uses_of, wires_of, ratios_of, ratios_on, with_ratio}
use Rattle.tdm_problem.specs.Tight.{wire_at, ratio_at}
use Rattle.tdm_problem.proofs.Routings.{length-with_ratio, wires_of-with_ratio, wires_of-set_ratio}
use Rattle.tdm_problem.proofs.Few.{distinct_few}
use Rattle.worst_refine.specs.Lowered.{IsLowered}
use Rattle.worst_refine.proofs.Places.{put_ratio, ratio_here, ratio_beside, ratio_of_other_net, ratios_elsewhere}
use Rattle.worst_refine.proofs.Monotone.{AtMost, FitsLanes-raised}

-- what holds of all ratios still does, where it holds of the one that is written
pub all_put : (P : ℕ → Type 0) (routing : Routing) (n place ratio : ℕ) → P ratio
    → All (λ uses. All P (ratios_of uses)) routing
    → All (λ uses. All P (ratios_of uses)) (with_ratio routing n place ratio)
all_put P routing n place ratio here h =
    elim (cases_lt n (length routing)) [
      | inl there ↦
          All-set (λ uses. All P (ratios_of uses)) routing n _
          (subst (λ (rs : List ℕ). All P rs)
          (sym (map-set (λ (u : WireUse). u.ratio) (uses_of routing n) place _))
          (All-set P (ratios_of (uses_of routing n)) place ratio here
          (All-get_or (λ uses. All P (ratios_of uses)) routing n [] there h)))
          h
      | inr past ↦ subst (λ (s : Routing). All (λ uses. All P (ratios_of uses)) s)
          (sym (set_past routing n _ past)) h
    ]

AtMost-append : (xs ys us vs : List ℕ) → AtMost xs ys → AtMost us vs → AtMost (xs ++ us) (ys ++ vs)
AtMost-append [] [] us vs h i = i
AtMost-append [] (y ∷ ys) us vs h i = absurd h
AtMost-append (x ∷ xs) [] us vs h i = absurd h
AtMost-append (x ∷ xs) (y ∷ ys) us vs h i = (h.0, AtMost-append xs ys us vs h.1 i)

at_most_of_net : (low high : List WireUse) (e : ℕ) → wires_of low ≡ wires_of high
    → ((place : ℕ) → slice_index (ratios_of low) place ≤ slice_index (ratios_of high) place)
    → AtMost (ratios_of (filter (λ u. u.wire == e) low)) (ratios_of (filter (λ u. u.wire == e) high))
at_most_of_net [] [] e wires below = tt
at_most_of_net [] (v ∷ high) e wires below = absurd (omega (arith, ap length wires))
at_most_of_net (u ∷ low) [] e wires below = absurd (omega (arith, ap length wires))
at_most_of_net (u ∷ low) (v ∷ high) e wires below =
    let same : u.wire ≡ v.wire = ap (λ ws. slice_index ws 0) wires in
    let rest = at_most_of_net low high e (ap (λ ws. drop 1 ws) wires) (λ place. below (suc place)) in
    let left = filter (λ (x : WireUse). x.wire == e) low in
    let right = filter (λ (x : WireUse). x.wire == e) high in
    subst (λ w. AtMost (ratios_of (cond (u.wire == e) (u ∷ left) left))
    (ratios_of (cond (w == e) (v ∷ right) right))) same
    (elim (u.wire == e) as (λ b. AtMost (ratios_of (cond b (u ∷ left) left))
    (ratios_of (cond b (v ∷ right) right))) [
      | true ↦ (below 0, rest)
      | false ↦ rest
    ])

at_most_on : (low high : Routing) (e : ℕ) → length low ≡ length high
    → ((n : ℕ) → wires_of (uses_of low n) ≡ wires_of (uses_of high n))
    → ((n place : ℕ) → ratio_at low n place ≤ ratio_at high n place)
    → AtMost (ratios_on low e) (ratios_on high e)
at_most_on [] [] e nets wires ratios = tt
at_most_on [] (v ∷ high) e nets wires ratios = absurd (omega arith)
at_most_on (u ∷ low) [] e nets wires ratios = absurd (omega arith)
at_most_on (u ∷ low) (v ∷ high) e nets wires ratios =
    AtMost-append _ _ _ _ (at_most_of_net u v e (wires 0) (ratios 0))
    (at_most_on low high e (omega arith) (λ n. wires (suc n)) (λ n. ratios (suc n)))

-- the ratios on a wire are positive where all are
positive_of_net : (uses : List WireUse) (e : ℕ) → All (λ r. 0 < r) (ratios_of uses)
    → All (λ r. 0 < r) (ratios_of (filter (λ u. u.wire == e) uses))
positive_of_net [] e h = All-nil (λ r. 0 < r)
positive_of_net (u ∷ uses) e h =
    let rest = positive_of_net uses e (All-tail (λ r. 0 < r) u.ratio (ratios_of uses) h) in
    let left = filter (λ (x : WireUse). x.wire == e) uses in
    elim (u.wire == e) as (λ b. All (λ r. 0 < r) (ratios_of (cond b (u ∷ left) left))) [
      | true ↦ All-cons (λ r. 0 < r) u.ratio (ratios_of left)
          (All-head (λ r. 0 < r) u.ratio (ratios_of uses) h) rest
      | false ↦ rest
    ]

pub positive_on : (routing : Routing) (e : ℕ) → All (λ uses. All (λ r. 0 < r) (ratios_of uses)) routing
    → All (λ r. 0 < r) (ratios_on routing e)
positive_on [] e h = All-nil (λ r. 0 < r)
positive_on (uses ∷ routing) e h =
    All-append (λ r. 0 < r) _ (ratios_on routing e)
    (positive_of_net uses e (All-head (λ us. All (λ r. 0 < r) (ratios_of us)) uses routing h))
    (positive_on routing e (All-tail (λ us. All (λ r. 0 < r) (ratios_of us)) uses routing h))

-- where the lower ratios fit, the old ones do
pub FitsLanes-lowered : (old new : Routing) (e lanes : ℕ) → IsLowered old new
    → All (λ uses. All (λ r. 0 < r) (ratios_of uses)) new → FitsLanes (ratios_on new e) lanes
    → FitsLanes (ratios_on old e) lanes
FitsLanes-lowered old new e lanes h positive fits =
    FitsLanes-raised (ratios_on new e) (ratios_on old e) lanes (positive_on new e positive)
    (at_most_on new old e h.nets h.wires h.ratios) fits

pub IsLowered-refl : (routing : Routing) → IsLowered routing routing
IsLowered-refl routing = record { nets = refl; wires = λ n. refl; ratios = λ n place. omega arith }

pub IsLowered-trans : (a b c : Routing) → IsLowered a b → IsLowered b c → IsLowered a c
IsLowered-trans a b c h i = record {
  nets = i.nets ∙ h.nets;
  wires = λ n. i.wires n ∙ h.wires n;
  ratios = λ n place. omega (arith, h.ratios n place, i.ratios n place);
}

-- a ratio that is lowered
pub IsLowered-with_ratio : (routing : Routing) (n place ratio : ℕ) → n < length routing
    → place < length (uses_of routing n) → ratio ≤ ratio_at routing n place
    → IsLowered routing (with_ratio routing n place ratio)
IsLowered-with_ratio routing n place ratio there place_there less = record {
  nets = length-with_ratio routing n place ratio;
  wires = λ m. wires_of-with_ratio routing n place ratio m there;
  ratios = λ m q. elim (cases_eq m n) [
    | inr other ↦ omega (arith, ratio_of_other_net routing n place ratio m q other)
    | inl same ↦ subst (λ k. ratio_at (with_ratio routing n place ratio) k q ≤ ratio_at routing k q)
        (sym same) (elim (cases_eq q place) [
          | inl here ↦ subst (λ k. ratio_at (with_ratio routing n place ratio) n k ≤ ratio_at routing n k)
              (sym here) (omega (arith, ratio_here routing n place ratio there place_there))
          | inr beside ↦ omega (arith, ratio_beside routing n place ratio q there beside)
        ])
  ];
}

-- positive ratios, with a positive one at a place
pub positive_put : (routing : Routing) (n place ratio : ℕ) → 0 < ratio
    → All (λ uses. All (λ r. 0 < r) (ratios_of uses)) routing
    → All (λ uses. All (λ r. 0 < r) (ratios_of uses)) (with_ratio routing n place ratio)
positive_put routing n place ratio positive h = all_put (λ r. 0 < r) routing n place ratio positive h

-- how many uses a net has
pub same_uses : (old new : Routing) (n : ℕ) → wires_of (uses_of new n) ≡ wires_of (uses_of old n)
    → length (uses_of new n) ≡ length (uses_of old n)
same_uses old new n is = omega (
  arith,
  ap length is,
  length-map (uses_of new n) (λ (u : WireUse). u.wire),
  length-map (uses_of old n) (λ (u : WireUse). u.wire),
)

-- the same ratio written into both
pub IsLowered-both : (old new : Routing) (n place ratio : ℕ) → IsLowered old new → n < length old
    → place < length (uses_of old n) → IsLowered (with_ratio old n place ratio) (with_ratio new n place ratio)
IsLowered-both old new n place ratio h there place_there =
    let new_there : n < length new = omega (arith, h.nets) in
    let new_place : place < length (uses_of new n) = omega (arith, same_uses old new n (h.wires n)) in
    record {
      nets = omega (arith, length-with_ratio old n place ratio, length-with_ratio new n place ratio, h.nets);
      wires = λ m. wires_of-with_ratio new n place ratio m new_there
          ∙ (h.wires m ∙ sym (wires_of-with_ratio old n place ratio m there));
      ratios = λ m q. elim (cases_eq m n) [
        | inr other ↦ omega (
          arith,
          ratio_of_other_net old n place ratio m q other,
          ratio_of_other_net new n place ratio m q other,
          h.ratios m q,
        )
        | inl same ↦ subst (λ k. ratio_at (with_ratio new n place ratio) k q
            ≤ ratio_at (with_ratio old n place ratio) k q) (sym same) (elim (cases_eq q place) [
              | inl here ↦ subst (λ k. ratio_at (with_ratio new n place ratio) n k
                  ≤ ratio_at (with_ratio old n place ratio) n k) (sym here)
                  (omega (
                    arith,
                    ratio_here old n place ratio there place_there,
                    ratio_here new n place ratio new_there new_place,
                  ))
              | inr beside ↦ omega (
                arith,
                ratio_beside old n place ratio q there beside,
                ratio_beside new n place ratio q new_there beside,
                h.ratios n q,
              )
            ])
      ];
    }

-- what could not be lowered still cannot, where it was not touched and others were lowered
pub CannotBeLowered-lowered : (old new : Routing) (n place : ℕ) → n < length old
    → place < length (uses_of old n) → IsLowered old new → ratio_at new n place ≡ ratio_at old n place
    → All (λ uses. All (λ r. 0 < r) (ratios_of uses)) new → CannotBeLowered old n place
    → CannotBeLowered new n place
CannotBeLowered-lowered old new n place there place_there h same positive tight = λ above fits.
    let wire : wire_at new n place ≡ wire_at old n place = ap (λ ws. slice_index ws place) (h.wires n) in
    let lower = ratio_at old n place - 2 in
    let now : FitsLanes (ratios_on (with_ratio new n place lower) (wire_at old n place)) 1 =
    subst (λ e. FitsLanes (ratios_on (with_ratio new n place lower) e) 1) wire
    (subst (λ r. FitsLanes (ratios_on (with_ratio new n place (r - 2)) (wire_at new n place)) 1) same fits) in
    tight (omega (arith, same, above))
    (FitsLanes-lowered (with_ratio old n place lower) (with_ratio new n place lower) (wire_at old n place) 1
    (IsLowered-both old new n place lower h there place_there)
    (positive_put new n place lower (omega (arith, same, above)) positive) now)

-- the uses are of wires below a number where their wires are
pub below_from_wires : (wires : ℕ) (uses : List WireUse) → All (λ w. w < wires) (wires_of uses)
    → All (λ u. u.wire < wires) uses
below_from_wires wires [] h = All-nil (λ u. u.wire < wires)
below_from_wires wires (u ∷ uses) h =
    All-cons (λ (v : WireUse). v.wire < wires) u uses (All-head (λ w. w < wires) u.wire (wires_of uses) h)
    (below_from_wires wires uses (All-tail (λ w. w < wires) u.wire (wires_of uses) h))

pub below_of_wires : (wires : ℕ) (uses : List WireUse) → All (λ u. u.wire < wires) uses
    → All (λ w. w < wires) (wires_of uses)
below_of_wires wires [] h = All-nil (λ w. w < wires)
below_of_wires wires (u ∷ uses) h =
    All-cons (λ w. w < wires) u.wire (wires_of uses) (All-head (λ (v : WireUse). v.wire < wires) u uses h)
    (below_of_wires wires uses (All-tail (λ (v : WireUse). v.wire < wires) u uses h))

-- a net uses no more wires than there are
pub few_uses : (wires : ℕ) (routing : Routing) (n : ℕ) → HasFittingRatios wires routing → n < length routing
    → length (uses_of routing n) ≤ wires
few_uses wires routing n h there =
    let few = distinct_few (wires_of (uses_of routing n)) wires
    (All-get_or (λ uses. AllPairs (λ d e. d ≢ e) (wires_of uses)) routing n [] there h.distinct)
    (below_of_wires wires (uses_of routing n) (All-get_or (λ uses. All (λ u. u.wire < wires) uses) routing
    n [] there h.there)) in
    omega (arith, few, length-map (uses_of routing n) (λ (u : WireUse). u.wire))

-- a legal routing stays so with lower ratios that are even and fit
pub IsLegal-lowered : (board : Board) (old new : Routing) → IsLegal board old → IsLowered old new
    → HasFittingRatios (length board.wires) new → IsLegal board new
IsLegal-lowered board old new legal h fitting = record {
  is_for = record { nets = h.nets ∙ legal.is_for.nets; there = fitting.there; distinct = fitting.distinct };
  joined = λ n there. subst (λ (ws : List ℕ). Joins board (Contains ws) (terminals_of board n))
      (sym (h.wires n)) (legal.joined n there);
  even = fitting.even;
  fits = fitting.fits;
}

pub HasFittingRatios-legal : (board : Board) (routing : Routing) → IsLegal board routing
    → HasFittingRatios (length board.wires) routing
HasFittingRatios-legal board routing legal = record {
  there = legal.is_for.there;
  distinct =
      legal.is_for.distinct;
  even = legal.even;
  fits = legal.fits;
}

-- even ratios are positive
positive_of_even : (ratios : List ℕ) → All IsEvenRatio ratios → All (λ r. 0 < r) ratios
positive_of_even ratios even = λ k d inside. let half = even k d inside in let p = half.1 in let e = half.2 in
    omega arith

pub positive_ratios : (routing : Routing) → All (λ uses. All IsEvenRatio (ratios_of uses)) routing
    → All (λ uses. All (λ r. 0 < r) (ratios_of uses)) routing
positive_ratios routing even = λ n d inside. positive_of_even (ratios_of (get_or routing n d))
    (even n d inside)

-- one ratio is lowered, and its wire still fits
pub HasFittingRatios-put : (wires : ℕ) (routing : Routing) (n place ratio : ℕ) → n < length routing
    → place < length (uses_of routing n) → HasFittingRatios wires routing → IsEvenRatio ratio
    → FitsLanes (ratios_on (with_ratio routing n place ratio) (wire_at routing n place)) 1
    → HasFittingRatios wires (with_ratio routing n place ratio)
HasFittingRatios-put wires routing n place ratio there place_there h even fits = record {
  there = All-set (λ uses. All (λ u. u.wire < wires) uses) routing n _
      (below_from_wires wires (put_ratio (uses_of routing n) place ratio)
      (subst (λ (ws : List ℕ). All (λ w. w < wires) ws)
      (sym (wires_of-set_ratio (uses_of routing n) place ratio))
      (below_of_wires wires (uses_of routing n) (All-get_or (λ uses. All (λ u. u.wire < wires) uses) routing n
      [] there h.there))))
      h.there;
  distinct = All-set (λ uses. AllPairs (λ d e. d ≢ e) (wires_of uses)) routing n _
      (subst (λ (ws : List ℕ). AllPairs (λ d e. d ≢ e) ws)
      (sym (wires_of-set_ratio (uses_of routing n) place ratio))
      (All-get_or (λ uses. AllPairs (λ d e. d ≢ e) (wires_of uses)) routing n [] there h.distinct))
      h.distinct;
  even = all_put IsEvenRatio routing n place ratio even h.even;
  fits = λ e inside. elim (cases_eq (wire_at routing n place) e) [
    | inl here ↦ subst (λ w. FitsLanes (ratios_on (with_ratio routing n place ratio) w) 1) here fits
    | inr other ↦ subst (λ (rs : List ℕ). FitsLanes rs 1)
        (sym (ratios_elsewhere routing n place ratio e there place_there other)) (h.fits e inside)
  ];
}
