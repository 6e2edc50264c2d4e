-- Where the reciprocals rounded up tell that a ratio cannot be lowered.
use Rattle.std.proofs.Common.{◌≡◌, ℕ, ◌+◌, ◌-◌, ◌<◌, ◌≤◌, length, get_or, List, All, arith, refl, sym, ap, subst, inl, inr, ◌∙◌}
use Rattle.std.specs.Prelude.{Bool, slice_index}
use Rattle.std.proofs.lemmas.Bool.{cases_eq}
use Rattle.tdm_problem.specs.declared.solution.WireUse.{WireUse}
use Rattle.tdm_problem.specs.Routing.{Routing, uses_of, ratios_on, with_ratio}
use Rattle.tdm_problem.specs.Tight.{ratio_at, wire_at}
use Rattle.recip_sum.specs.Rounded.{floor_of}
use Rattle.recip_sum.proofs.RoundedSums.{ceiling_sum-le, floors-fit}
use Rattle.solution_eval.specs.Counted.{IsWanted}
use Rattle.solution_eval.proofs.Counting.{ratios_on-few}
use Rattle.worst_refine.specs.Fitting.{HasFittingRatios}
use Rattle.worst_refine.specs.Spent.{IsSpent}
use Rattle.worst_refine.specs.Steps.{CannotBeLowered, CeilingsTell}
use Rattle.worst_refine.proofs.Lowering.{positive_on, positive_put, positive_ratios}
use Rattle.worst_refine.proofs.Places.{stands_on, sum_put}
use Rattle.worst_refine.proofs.Replacing.{below_at, read_ratio, read_wire}

-- rounded up the reciprocals sum to at most one unit a net more than rounded down
pub ceilings-tell : (wires : ℕ) (routing : Routing) (spent : List ℕ) (n place count : ℕ) → n < length routing
    → place < length (uses_of routing n) → HasFittingRatios wires routing → IsSpent routing wires spent
    → length routing ≤ count → CeilingsTell (slice_index spent (wire_at routing n place)) count
    (ratio_at routing n place) → CannotBeLowered routing n place
ceilings-tell wires routing spent n place count there place_there fitting sums few tell = λ above fits.
    let wire = wire_at routing n place in
    let lower = ratio_at routing n place - 2 in
    let lowered = ratios_on (with_ratio routing n place lower) wire in
    let positive = positive_ratios routing fitting.even in
    let most = floors-fit lowered 1 (positive_on (with_ratio routing n place lower) wire
    (positive_put routing n place lower (omega arith) positive)) fits in
    let sum = sum_put floor_of (ratios_on routing wire) (λ r. ratios_on (with_ratio routing n place r) wire)
    (ratio_at routing n place) lower (stands_on routing n place wire there place_there refl) in
    let rounded = ceiling_sum-le (ratios_on routing wire) (positive_on routing wire positive) in
    let spent_is = sums.each wire (below_at wires routing n place fitting there place_there) in
    let tells = tell above in
    absurd (omega (
      arith,
      most,
      sum,
      rounded,
      ratios_on-few routing wire fitting.distinct,
      spent_is,
      tells,
      few,
    ))

-- after some of these uses: no mark was taken away, and of the uses whose wires bear no mark the sums tell
pub record IsDoubting (spent : List ℕ) (count : ℕ) (uses : List WireUse) (done : ℕ)
    (before doubtful : List Bool) : Type 0 where
  pub size : length doubtful ≡ length before
  pub more : (e : ℕ) → IsWanted before e → IsWanted doubtful e
  pub sure : (k : ℕ) (d : WireUse) → k < done → ¬ IsWanted doubtful (get_or uses k d).wire
      → CeilingsTell (slice_index spent (get_or uses k d).wire) count (get_or uses k d).ratio

pub doubting_none : (spent : List ℕ) (count : ℕ) (uses : List WireUse) (before : List Bool)
    → IsDoubting spent count uses 0 before before
doubting_none spent count uses before = record {
  size = refl;
  more = λ e is. is;
  sure = λ k d below. absurd (omega arith);
}

-- of the first nets each ratio that can be lowered stands on a wire that bears a mark
pub record IsDoubted (wires : ℕ) (routing : Routing) (done : ℕ) (doubtful : List Bool) : Type 0 where
  pub size : length doubtful ≡ wires
  pub sure : (m place : ℕ) → m < done → place < length (uses_of routing m)
      → ¬ IsWanted doubtful (wire_at routing m place) → CannotBeLowered routing m place

pub doubted_more : (wires : ℕ) (routing : Routing) (spent : List ℕ) (n count : ℕ) (row : List WireUse)
    (before doubtful : List Bool) → n < length routing → HasFittingRatios wires routing
    → IsSpent routing wires spent → length routing ≤ count → uses_of routing n ≡ row
    → length doubtful ≡ length before → ((e : ℕ) → IsWanted before e → IsWanted doubtful e)
    → All (λ (u : WireUse). ¬ IsWanted doubtful u.wire
    → CeilingsTell (slice_index spent u.wire) count u.ratio) row → IsDoubted wires routing n before
    → IsDoubted wires routing (n + 1) doubtful
doubted_more wires routing spent n count row before doubtful there fitting sums few is size more tell so_far =
    record {
      size = size ∙ so_far.size;
      sure = λ m place below place_there certain. elim (cases_eq m n) [
        | inr other ↦ so_far.sure m place (omega arith) place_there
            (λ marked. certain (more (wire_at routing m place) marked))
        | inl same ↦
            let d : WireUse = record { wire = 0; ratio = 0 } in
            let inside : place < length (uses_of routing n) =
            subst (λ (k : ℕ). place < length (uses_of routing k)) same place_there in
            let wire = read_wire routing row n place d is inside in
            let ratio = read_ratio routing row n place d is inside in
            let certain_here : ¬ IsWanted doubtful (wire_at routing n place) =
            subst (λ (k : ℕ). ¬ IsWanted doubtful (wire_at routing k place)) same certain in
            let here = tell place d (omega (arith, inside, ap length is))
            (subst (λ (e : ℕ). ¬ IsWanted doubtful e) wire certain_here) in
            subst (λ (k : ℕ). CannotBeLowered routing k place) (sym same)
            (ceilings-tell wires routing spent n place count there inside fitting sums few
            (subst (λ (e : ℕ). CeilingsTell (slice_index spent e) count (ratio_at routing n place)) (sym wire)
            (subst (λ (r : ℕ). CeilingsTell (slice_index spent (get_or row place d).wire) count r)
            (sym ratio) here)))
      ];
    }
