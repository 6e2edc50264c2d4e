-- What lowering one ratio does to all that the pass keeps.
use Rattle.std.proofs.Common.{◌≡◌, ℕ, ◌+◌, ◌-◌, ◌<◌, ◌≤◌, List, [], ◌∷◌, ◌++◌, length, All, arith, refl, sym, ap, subst, inl, inr, ◌∙◌}
use Rattle.std.specs.Prelude.{Bool, true, cond, slice_index, slice_index_or, slice_set, count_by, ◌==◌}
use Rattle.std.specs.Ordering.{nat_cmp}
use Rattle.std.specs.FinMap as map
use Rattle.std.proofs.lemmas.Bool.{cases_eq, cases_lt, eq-eqb}
use Rattle.std.proofs.lemmas.List.{get_or-set_same, get_or-set_other, length-set}
use Rattle.std.proofs.lemmas.List.Sums.{sum_by-cons, sum_by-append}
use Rattle.tdm_problem.specs.Fit.{FitsLanes}
use Rattle.tdm_problem.specs.Legal.{IsEvenRatio}
use Rattle.tdm_problem.specs.declared.solution.WireUse.{WireUse}
use Rattle.std.proofs.lemmas.List.{get_or-map, length-map}
use Rattle.std.proofs.lemmas.List.Elements.{All-get_or}
use Rattle.tdm_problem.specs.Routing.{Routing, uses_of, ratios_of, ratios_on, with_ratio}
use Rattle.tdm_problem.specs.Tight.{wire_at, ratio_at}
use Rattle.tdm_problem.proofs.Routings.{length-with_ratio}
use Rattle.recip_sum.specs.Counts.{items}
use Rattle.recip_sum.specs.Items.{SameReciprocals}
use Rattle.recip_sum.specs.Rounded.{floor_of, floor_sum}
use Rattle.recip_sum.proofs.Same.{SameReciprocals-sym, SameReciprocals-trans, SameReciprocals-cons, SameReciprocals-to_front, SameReciprocals-cancel, FitsLanes-same}
use Rattle.recip_sum.proofs.RoundedSums.{floors-fit}
use Rattle.solution_eval.specs.Counted.{items_at, CountsRatios, IsWanted}
use Rattle.worst_refine.specs.Fitting.{HasFittingRatios}
use Rattle.worst_refine.specs.Lowered.{IsLowered}
use Rattle.worst_refine.specs.Steps.{AreInDoubt, CannotBeLowered, FloorsTell, IsReplaced, IsStep}
use Rattle.worst_refine.proofs.Places.{StandsIn, stands_on, ratios_elsewhere, sum_put, ratio_here, ratio_beside, ratio_of_other_net}
use Rattle.worst_refine.proofs.Lowering.{IsLowered-refl, IsLowered-trans, IsLowered-with_ratio, positive_on, positive_put, positive_ratios, same_uses, HasFittingRatios-put, CannotBeLowered-lowered}

-- a use as it is read from its net's row
pub read_ratio : (routing : Routing) (row : List WireUse) (n place : ℕ) (d : WireUse)
    → uses_of routing n ≡ row → place < length (uses_of routing n)
    → ratio_at routing n place ≡ (slice_index_or row place d).ratio
read_ratio routing row n place d is there =
    get_or-map (λ (u : WireUse). u.ratio) (uses_of routing n) place d 0 there
    ∙ ap (λ us. (slice_index_or us place d).ratio) is

pub read_wire : (routing : Routing) (row : List WireUse) (n place : ℕ) (d : WireUse) → uses_of routing n ≡ row
    → place < length (uses_of routing n) → wire_at routing n place ≡ (slice_index_or row place d).wire
read_wire routing row n place d is there =
    get_or-map (λ (u : WireUse). u.wire) (uses_of routing n) place d 0 there
    ∙ ap (λ us. (slice_index_or us place d).wire) is

pub even_at : (wires : ℕ) (routing : Routing) (n place : ℕ) → HasFittingRatios wires routing
    → n < length routing → place < length (uses_of routing n) → IsEvenRatio (ratio_at routing n place)
even_at wires routing n place h there place_there =
    All-get_or (λ uses. All IsEvenRatio (ratios_of uses)) routing n [] there h.even place 0
    (omega (arith, length-map (uses_of routing n) (λ (u : WireUse). u.ratio)))

pub below_at : (wires : ℕ) (routing : Routing) (n place : ℕ) → HasFittingRatios wires routing
    → n < length routing → place < length (uses_of routing n) → wire_at routing n place < wires
below_at wires routing n place h there place_there =
    let d : WireUse = record { wire = 0; ratio = 0 } in
    let below = All-get_or (λ uses. All (λ u. u.wire < wires) uses) routing n [] there h.there place d
    place_there in
    omega (arith, below, read_wire routing (uses_of routing n) n place d refl place_there)

-- with another ratio in its place, the others beside it stay
pub other_beside : (before : List ℕ) (after : ℕ → List ℕ) (ratio other : ℕ) (rest : List ℕ) → 0 < ratio
    → StandsIn before after ratio → SameReciprocals before (ratio ∷ rest)
    → SameReciprocals (after other) (other ∷ rest)
other_beside before after ratio other rest positive h same =
    let front_back = h.front ++ h.back in
    let was : SameReciprocals (ratio ∷ front_back) (ratio ∷ rest) =
    SameReciprocals-trans (ratio ∷ front_back) before (ratio ∷ rest)
    (SameReciprocals-sym before (ratio ∷ front_back) (subst (λ l. SameReciprocals l (ratio ∷ front_back))
    (sym h.is) (SameReciprocals-to_front h.front ratio h.back)))
    same in
    subst (λ l. SameReciprocals l (other ∷ rest)) (sym (h.put other))
    (SameReciprocals-trans (h.front ++ other ∷ h.back) (other ∷ front_back) (other ∷ rest)
    (SameReciprocals-to_front h.front other h.back)
    (SameReciprocals-cons other front_back rest (SameReciprocals-cancel ratio front_back rest positive was)))

module _ (wires : ℕ) (doubtful : List Bool) (routing : Routing) (counts : List (map.FinMap nat_cmp ℕ))
    (n place : ℕ) (there : n < length routing) (place_there : place < length (uses_of routing n))
    (fitting : HasFittingRatios wires routing) (counted : CountsRatios doubtful routing wires counts)
    (wire ratio : ℕ) (at : wire_at routing n place ≡ wire) (has : ratio_at routing n place ≡ ratio)
    (inside : wire < wires) (wanted : IsWanted doubtful wire) where
  stands : StandsIn (ratios_on routing wire) (λ r. ratios_on (with_ratio routing n place r) wire) ratio
  stands = subst (λ r. StandsIn (ratios_on routing wire) (λ r. ratios_on (with_ratio routing n place r) wire)
      r) has (stands_on routing n place wire there place_there at)

  -- the ratio stands among the items of its wire
  pub is_among : 0 < count_by (λ r. r == ratio) (items_at counts wire)
  is_among =
      let h = stands in
      let is : (ratio == ratio) ≡ true = eq-eqb ratio ratio refl in
      let here : cond {A = ℕ} (ratio == ratio) 1 0 ≡ 1 = ap (λ b. cond {A = ℕ} b 1 0) is in
      omega (
        arith,
        here,
        (counted.each wire inside wanted).parts (λ r. cond (r == ratio) 1 0),
        ap (count_by (λ r. r == ratio)) h.is,
        sum_by-append (λ r. cond (r == ratio) 1 0) h.front (ratio ∷ h.back),
        sum_by-cons (λ r. cond (r == ratio) 1 0) ratio h.back,
      )

  -- the items of its wire fit
  pub items_fit : FitsLanes (items_at counts wire) 1
  items_fit = FitsLanes-same (ratios_on routing wire) (items_at counts wire) 1
      (SameReciprocals-sym _ _ (counted.each wire inside wanted)) (fitting.fits wire inside)

  pub step_told : FloorsTell (floor_sum (items_at counts wire)) ratio
      → IsStep wires doubtful routing routing counts n place (place + 1)
  step_told told = record {
    fitting = fitting;
    lowered = IsLowered-refl routing;
    counted = counted;
    here = λ q low high.
        let same : place ≡ q = omega arith in
        subst (λ k. CannotBeLowered routing n k) same (λ above fits.
        let lower = ratio_at routing n place - 2 in
        let list = ratios_on (with_ratio routing n place lower) wire in
        let now : FitsLanes list 1 = subst (λ e. FitsLanes (ratios_on (with_ratio routing n place lower) e) 1)
        at fits in
        let most = floors-fit list 1 (positive_on (with_ratio routing n place lower) wire
        (positive_put routing n place lower (omega arith) (positive_ratios routing fitting.even)))
        now in
        let sum = sum_put floor_of (ratios_on routing wire)
        (λ r. ratios_on (with_ratio routing n place r) wire) ratio lower stands in
        let all = (counted.each wire inside wanted).parts floor_of in
        let tell = told (omega (arith, has, above)) in
        let low_part : floor_of lower ≡ floor_of (ratio - 2) = ap (λ r. floor_of (r - 2)) has in
        absurd (omega (arith, most, sum, all, tell, low_part)));
    kept = λ m q _ _ tight. tight;
  }

  module _ (new : ℕ) (counts_new : map.FinMap nat_cmp ℕ) (even : IsEvenRatio ratio)
      (r : IsReplaced (slice_index_or counts wire map.empty) counts_new ratio new) where
    positive : 0 < ratio
    positive = let p = even.1 in let e = even.2 in omega arith

    new_positive : 0 < new
    new_positive = let h = r.least.even in let p = h.1 in let e = h.2 in omega arith

    was_list : SameReciprocals (ratios_on routing wire) (ratio ∷ r.rest)
    was_list = SameReciprocals-trans (ratios_on routing wire) (items_at counts wire) (ratio ∷ r.rest)
        (SameReciprocals-sym _ _ (counted.each wire inside wanted)) (SameReciprocals-sym _ _ r.was)

    new_list : SameReciprocals (ratios_on (with_ratio routing n place new) wire) (new ∷ r.rest)
    new_list = other_beside (ratios_on routing wire) (λ r. ratios_on (with_ratio routing n place r) wire)
        ratio new r.rest positive stands was_list

    pub not_above : new ≤ ratio
    not_above = elim (cases_lt ratio new) [
      | inl above ↦ absurd
          (r.least.least ratio even above (FitsLanes-same (ratios_on routing wire) (ratio ∷ r.rest) 1 was_list
          (fitting.fits wire inside)))
      | inr below ↦ below
    ]

    lowered_here : IsLowered routing (with_ratio routing n place new)
    lowered_here = IsLowered-with_ratio routing n place new there place_there (omega (arith, has, not_above))

    new_fits : FitsLanes (ratios_on (with_ratio routing n place new) (wire_at routing n place)) 1
    new_fits = subst (λ e. FitsLanes (ratios_on (with_ratio routing n place new) e) 1) (sym at)
        (FitsLanes-same (new ∷ r.rest) (ratios_on (with_ratio routing n place new) wire) 1
        (SameReciprocals-sym _ _ new_list) r.least.fits)

    pub fitting_here : HasFittingRatios wires (with_ratio routing n place new)
    fitting_here = HasFittingRatios-put wires routing n place new there place_there fitting r.least.even
        new_fits

    counted_here : CountsRatios doubtful (with_ratio routing n place new) wires
        (slice_set counts wire counts_new)
    counted_here = record {
      whole = length-set counts wire counts_new ∙ counted.whole;
      each = λ e e_inside e_wanted. elim (cases_eq wire e) [
        | inl same ↦ subst (λ k. SameReciprocals (items_at (slice_set counts wire counts_new) k)
            (ratios_on (with_ratio routing n place new) k)) same
            (subst (λ c. SameReciprocals (items c) (ratios_on (with_ratio routing n place new) wire))
            (sym (get_or-set_same counts wire counts_new map.empty (omega (arith, counted.whole))))
            (SameReciprocals-trans (items counts_new) (new ∷ r.rest) _ r.now
            (SameReciprocals-sym _ _ new_list)))
        | inr other ↦
            subst (λ c. SameReciprocals (items c) (ratios_on (with_ratio routing n place new) e))
            (sym (get_or-set_other counts wire e counts_new map.empty (λ same. other (sym same))))
            (subst (λ l. SameReciprocals (items_at counts e) l)
            (sym (ratios_elsewhere routing n place new e there place_there
            (λ same. other (sym at ∙ same)))) (counted.each e e_inside e_wanted))
      ];
    }

    tight_here : CannotBeLowered (with_ratio routing n place new) n place
    tight_here = λ above fits.
        let now = ratio_here routing n place new there place_there in
        let new_there : n < length (with_ratio routing n place new) =
        omega (arith, length-with_ratio routing n place new) in
        let new_place : place < length (uses_of (with_ratio routing n place new) n) =
        omega (arith, same_uses routing (with_ratio routing n place new) n (lowered_here.wires n)) in
        let new_wire : wire_at (with_ratio routing n place new) n place ≡ wire =
        ap (λ ws. slice_index ws place) (lowered_here.wires n) ∙ at in
        let stand = subst (λ r. StandsIn (ratios_on (with_ratio routing n place new) wire)
        (λ r. ratios_on (with_ratio (with_ratio routing n place new) n place r) wire) r) now
        (stands_on (with_ratio routing n place new) n place wire new_there new_place new_wire) in
        let list = other_beside (ratios_on (with_ratio routing n place new) wire)
        (λ r. ratios_on (with_ratio (with_ratio routing n place new) n place r) wire) new
        (new - 2) r.rest new_positive stand new_list in
        let lower : FitsLanes (ratios_on (with_ratio (with_ratio routing n place new) n place (new - 2)) wire)
        1 =
        subst (λ e. FitsLanes (ratios_on (with_ratio (with_ratio routing n place new) n place (new - 2)) e) 1)
        new_wire
        (subst (λ k. FitsLanes (ratios_on (with_ratio (with_ratio routing n place new) n place (k - 2))
        (wire_at (with_ratio routing n place new) n place)) 1) now fits) in
        let h = r.least.even in
        let e = h.2 in
        r.least.least (new - 2) (h.0 - 1, omega (arith, now, above), omega (arith, now, above))
        (omega (arith, now, above)) (FitsLanes-same _ ((new - 2) ∷ r.rest) 1 list lower)

    kept_here : (m q : ℕ) → m < length routing → q < length (uses_of routing m) → CannotBeLowered routing m q
        → CannotBeLowered (with_ratio routing n place new) m q
    kept_here m q m_there q_there tight =
        let stays = λ (same : ratio_at (with_ratio routing n place new) m q ≡ ratio_at routing m q).
        CannotBeLowered-lowered routing (with_ratio routing n place new) m q m_there q_there lowered_here same
        (positive_ratios (with_ratio routing n place new) fitting_here.even) tight in
        elim (cases_eq m n) [
          | inr other ↦ stays (ratio_of_other_net routing n place new m q other)
          | inl same ↦ elim (cases_eq q place) [
            | inr beside ↦ stays (subst (λ k. ratio_at (with_ratio routing n place new) k q
                ≡ ratio_at routing k q) (sym same) (ratio_beside routing n place new q there beside))
            | inl here ↦ subst (λ k. CannotBeLowered (with_ratio routing n place new) k q) (sym same)
                (subst (λ k. CannotBeLowered (with_ratio routing n place new) n k) (sym here) tight_here)
          ]
        ]

    pub step_replaced : IsStep wires doubtful routing (with_ratio routing n place new)
        (slice_set counts wire counts_new) n place (place + 1)
    step_replaced = record {
      fitting = fitting_here;
      lowered = lowered_here;
      counted = counted_here;
      here = λ q low high. subst (λ k. CannotBeLowered (with_ratio routing n place new) n k) (let same : place
          ≡ q = omega arith in same) tight_here;
      kept = kept_here;
    }

-- no step yet
pub step_none : (wires : ℕ) (doubtful : List Bool) (routing : Routing) (counts : List (map.FinMap nat_cmp ℕ))
    (n start : ℕ) → HasFittingRatios wires routing → CountsRatios doubtful routing wires counts
    → IsStep wires doubtful routing routing counts n start start
step_none wires doubtful routing counts n start fitting counted = record {
  fitting = fitting;
  lowered = IsLowered-refl routing;
  counted = counted;
  here = λ place low high. absurd (omega arith);
  kept = λ m place _ _ tight. tight;
}

-- one step after another
pub step_more : (wires : ℕ) (doubtful : List Bool) (old mid new : Routing)
    (counts_mid counts : List (map.FinMap nat_cmp ℕ)) (n start middle end : ℕ) → n < length old
    → middle ≤ length (uses_of old n) → IsStep wires doubtful old mid counts_mid n start middle
    → IsStep wires doubtful mid new counts n middle end → IsStep wires doubtful old new counts n start end
step_more wires doubtful old mid new counts_mid counts n start middle end there within h i = record {
  fitting = i.fitting;
  lowered = IsLowered-trans old mid new h.lowered i.lowered;
  counted = i.counted;
  here = λ place low high. elim (cases_lt place middle) [
    | inl before ↦ i.kept n place (omega (arith, h.lowered.nets))
        (omega (arith, same_uses old mid n (h.lowered.wires n))) (h.here place low before)
    | inr after ↦ i.here place after high
  ];
  kept = λ m place m_there place_there tight.
      i.kept m place (omega (arith, h.lowered.nets)) (omega (arith, same_uses old mid m (h.lowered.wires m)))
      (h.kept m place m_there place_there tight);
}

-- a use on a wire that is not in doubt is passed over
pub step_passed : (wires : ℕ) (doubtful : List Bool) (routing : Routing)
    (counts : List (map.FinMap nat_cmp ℕ)) (n place : ℕ) → HasFittingRatios wires routing
    → CountsRatios doubtful routing wires counts → CannotBeLowered routing n place
    → IsStep wires doubtful routing routing counts n place (place + 1)
step_passed wires doubtful routing counts n place fitting counted tight = record {
  fitting = fitting;
  lowered = IsLowered-refl routing;
  counted = counted;
  here = λ q low high. subst (λ k. CannotBeLowered routing n k) (let same : place ≡ q = omega arith in
      same) tight;
  kept = λ m q _ _ still. still;
}

-- after a step ratios that can be lowered stand on wires in doubt as before
pub in_doubt_kept : (wires : ℕ) (doubtful : List Bool) (old new : Routing)
    (counts : List (map.FinMap nat_cmp ℕ)) (n start end : ℕ)
    → IsStep wires doubtful old new counts n start end → AreInDoubt doubtful old → AreInDoubt doubtful new
in_doubt_kept wires doubtful old new counts n start end step in_doubt = λ m place there place_there certain.
    let m_there : m < length old = omega (arith, there, step.lowered.nets) in
    let q_there : place < length (uses_of old m) =
    omega (arith, place_there, same_uses old new m (step.lowered.wires m)) in
    let wire : wire_at new m place ≡ wire_at old m place =
    ap (λ ws. slice_index ws place) (step.lowered.wires m) in
    step.kept m place m_there q_there
    (in_doubt m place m_there q_there (subst (λ (w : ℕ). ¬ IsWanted doubtful w) wire certain))

-- what the pass over the nets keeps
pub record IsPass (wires : ℕ) (doubtful : List Bool) (old new : Routing)
    (counts : List (map.FinMap nat_cmp ℕ)) (done : ℕ) : Type 0 where
  pub fitting : HasFittingRatios wires new
  pub lowered : IsLowered old new
  pub counted : CountsRatios doubtful new wires counts
  pub in_doubt : AreInDoubt doubtful new
  pub tight : (m place : ℕ) → m < done → place < length (uses_of new m) → CannotBeLowered new m place

pub pass_none : (wires : ℕ) (doubtful : List Bool) (routing : Routing) (counts : List (map.FinMap nat_cmp ℕ))
    → HasFittingRatios wires routing → CountsRatios doubtful routing wires counts
    → AreInDoubt doubtful routing → IsPass wires doubtful routing routing counts 0
pass_none wires doubtful routing counts fitting counted in_doubt =
    record {
      fitting = fitting;
      lowered = IsLowered-refl routing;
      counted = counted;
      in_doubt = in_doubt;
      tight = λ m place before there. absurd (omega arith);
    }

pub pass_more : (wires : ℕ) (doubtful : List Bool) (old mid new : Routing)
    (counts_mid counts : List (map.FinMap nat_cmp ℕ)) (n : ℕ) → n < length mid
    → IsPass wires doubtful old mid counts_mid n
    → IsStep wires doubtful mid new counts n 0 (length (uses_of mid n))
    → IsPass wires doubtful old new counts (n + 1)
pass_more wires doubtful old mid new counts_mid counts n there h i = record {
  fitting = i.fitting;
  lowered = IsLowered-trans old mid new h.lowered i.lowered;
  counted = i.counted;
  in_doubt = in_doubt_kept wires doubtful mid new counts n 0 (length (uses_of mid n)) i h.in_doubt;
  tight = λ m place before place_there.
      let within : place < length (uses_of mid m) = omega (arith, same_uses mid new m (i.lowered.wires m)) in
      elim (cases_eq m n) [
        | inl same ↦ subst (λ k. CannotBeLowered new k place) (sym same)
            (i.here place (omega arith) (subst (λ k. place < length (uses_of mid k)) same within))
        | inr other ↦ i.kept m place (omega arith) within (h.tight m place (omega arith) within)
      ];
}
