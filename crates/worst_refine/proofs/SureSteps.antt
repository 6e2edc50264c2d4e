-- One ratio is lowered, where the reciprocals rounded up leave room for it.
use Rattle.std.proofs.Common.{◌≡◌, ℕ, ◌+◌, ◌-◌, ◌<◌, ◌≤◌, ◌^◌, List, length, get_or, set, arith, sym, ap, subst, inl, inr, ◌∙◌}
use Rattle.std.specs.Prelude.{min}
use Rattle.std.proofs.lemmas.Bool.{cases_eq}
use Rattle.std.proofs.lemmas.List.{get_or-set_same, get_or-set_other, length-set}
use Rattle.tdm_problem.specs.Fit.{FitsLanes}
use Rattle.tdm_problem.specs.Legal.{IsEvenRatio}
use Rattle.tdm_problem.specs.Routing.{Routing, uses_of, ratios_on, with_ratio}
use Rattle.tdm_problem.specs.Tight.{wire_at, ratio_at}
use Rattle.recip_sum.specs.Rounded.{ceiling_of, ceiling_sum}
use Rattle.recip_sum.proofs.RoundedSums.{fits_from_ceilings}
use Rattle.worst_refine.specs.Fitting.{HasFittingRatios}
use Rattle.worst_refine.specs.Spent.{IsSpent, IsSureStep}
use Rattle.worst_refine.proofs.Places.{StandsIn, stands_on, ratios_elsewhere, sum_put}
use Rattle.worst_refine.proofs.Lowering.{IsLowered-refl, IsLowered-trans, IsLowered-with_ratio, positive_on, positive_put, positive_ratios, HasFittingRatios-put}

module _ (wires : ℕ) (routing : Routing) (spent : List ℕ) (n place wire ratio new v : ℕ) (there : n
    < length routing) (place_there : place < length (uses_of routing n))
    (fitting : HasFittingRatios wires routing) (sums : IsSpent routing wires spent)
    (at : wire_at routing n place ≡ wire) (has : ratio_at routing n place ≡ ratio) (inside : wire < wires)
    (even : IsEvenRatio new) (less : new < ratio) (exact : get_or spent wire 0 ≤ 2 ^ 64)
    (is : v ≡ get_or spent wire 0 + ceiling_of new - ceiling_of ratio) (within : v ≤ 2 ^ 64) where
  stands : StandsIn (ratios_on routing wire) (λ r. ratios_on (with_ratio routing n place r) wire) ratio
  stands = subst (λ r. StandsIn (ratios_on routing wire) (λ r. ratios_on (with_ratio routing n place r) wire)
      r) has (stands_on routing n place wire there place_there at)

  new_sum : ceiling_sum (ratios_on (with_ratio routing n place new) wire) ≡ v
  new_sum = omega (
    arith,
    sum_put ceiling_of (ratios_on routing wire) (λ r. ratios_on (with_ratio routing n place r) wire)
        ratio new stands,
    sums.each wire inside,
    exact,
    is,
  )

  new_fits : FitsLanes (ratios_on (with_ratio routing n place new) wire) 1
  new_fits =
      let p = even.1 in
      let e = even.2 in
      fits_from_ceilings (ratios_on (with_ratio routing n place new) wire) 1
      (positive_on (with_ratio routing n place new) wire (positive_put routing n place new (omega arith)
      (positive_ratios routing fitting.even))) (omega (arith, new_sum, within))

  pub sure_step : IsSureStep wires routing (with_ratio routing n place new) (set spent wire v)
  sure_step = record {
    fitting = HasFittingRatios-put wires routing n place new there place_there fitting even
        (subst (λ e. FitsLanes (ratios_on (with_ratio routing n place new) e) 1) (sym at) new_fits);
    lowered = IsLowered-with_ratio routing n place new there place_there (omega (arith, has, less));
    sums = record {
      whole = length-set spent wire v ∙ sums.whole;
      each = λ e e_inside. elim (cases_eq wire e) [
        | inl same ↦
            let here : get_or (set spent wire v) e 0 ≡ v = ap (λ (w : ℕ). get_or (set spent w v) e 0) same
            ∙ get_or-set_same spent e v 0 (omega (arith, sums.whole)) in
            let list : ceiling_sum (ratios_on (with_ratio routing n place new) e) ≡ v =
            ap (λ (w : ℕ). ceiling_sum (ratios_on (with_ratio routing n place new) w)) (sym same)
            ∙ new_sum in
            omega (arith, here, list, within)
        | inr other ↦
            get_or-set_other spent wire e v 0 (λ same. other (sym same))
            ∙ (sums.each e e_inside ∙ ap (λ rs. min (ceiling_sum rs) (2 ^ 64 + 1))
            (sym (ratios_elsewhere routing n place new e there place_there
            (λ same. other (sym at ∙ same)))))
      ];
    };
  }

-- no step, and one step after another
pub sure_none : (wires : ℕ) (routing : Routing) (spent : List ℕ) → HasFittingRatios wires routing
    → IsSpent routing wires spent → IsSureStep wires routing routing spent
sure_none wires routing spent fitting sums = record {
  fitting = fitting;
  lowered = IsLowered-refl routing;
  sums = sums;
}

pub sure_again : (first : List ℕ) (old mid new : Routing) (spent_mid spent : List ℕ)
    → IsSureStep (length first) old mid spent_mid → IsSureStep (length spent_mid) mid new spent
    → IsSureStep (length first) old new spent
sure_again first old mid new spent_mid spent h i =
    subst (λ (k : ℕ). IsSureStep k old new spent) h.sums.whole (record {
      fitting = i.fitting;
      lowered = IsLowered-trans old mid new h.lowered i.lowered;
      sums = i.sums;
    })
