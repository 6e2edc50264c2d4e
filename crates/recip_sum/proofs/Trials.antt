-- One more item that is tried beside those that are counted.
use Rattle.std.proofs.Common.{◌≡◌, ℕ, ◌+◌, ◌-◌, ◌*◌, ◌<◌, ◌≤◌, ◌^◌, List, [], ◌∷◌, ◌++◌, length, take, map, arith, refl, sym, ap, ◌∙◌, subst}
use Rattle.std.specs.Prelude.{slice_set}
use Rattle.std.proofs.Math.Nat.{le_of_mul-le-mul_right}
use Rattle.std.proofs.lemmas.Nat.{mul-le}
use Rattle.std.proofs.lemmas.List.{append-nil, drop_all, length-take-le, length-map}
use Rattle.tdm_problem.specs.Fit.{product, reciprocals, FitsLanes}
use Rattle.recip_sum.specs.declared.long_division.Term.{Term}
use Rattle.recip_sum.specs.LongDivision.{start_term}
use Rattle.recip_sum.specs.LeastEven.{IsLeastEven}
use borrow.Rule.Slice.PartMut.{put_mid}

-- the first term, and the others written behind it
pub put_behind_first : (ts : List Term) (x : Term) (ys : List Term) → 0 < length ts
    → length ys ≡ length ts - 1 → put_mid 1 (length (slice_set ts 0 x) - 1) (slice_set ts 0 x) ys ≡ x ∷ ys
put_behind_first [] x ys some long = absurd (omega arith)
put_behind_first (t ∷ ts) x ys some long =
    ap (λ zs. x ∷ zs) (ap (λ zs. ys ++ zs) (drop_all (length (x ∷ ts) - 1) ts (omega arith)) ∙ append-nil ys)

-- the terms that are worked on: that of the item that is tried, and those of the counts
pub tried : (ts : List Term) (es : List (ℕ × ℕ)) (n ratio : ℕ) (new : List Term) → n ≡ length es
    → n + 1 ≤ length ts → new ≡ map start_term es
    → put_mid 1 (length (slice_set (take (n + 1) ts) 0 (start_term (ratio, 1))) - 1)
    (slice_set (take (n + 1) ts) 0 (start_term (ratio, 1))) new ≡ map start_term ((ratio, 1) ∷ es)
tried ts es n ratio new is room written =
    let long = length-take-le (n + 1) ts room in
    put_behind_first (take (n + 1) ts) (start_term (ratio, 1)) new (omega (arith, long)) (omega (
      arith,
      long,
      ap length written,
      length-map es start_term,
    ))
    ∙ ap (λ zs. start_term (ratio, 1) ∷ zs) written

-- with a greater ratio it fits where it does with a smaller one; n and p are of the other items
greater_step : (r s p n c : ℕ) → 0 < r → r ≤ s → p + r * n ≤ c * (r * p) → p + s * n ≤ c * (s * p)
greater_step r s p n c positive less fits =
    let scaled = mul-le s (p + r * n) s (c * (r * p)) (omega arith) fits in
    let smaller = mul-le r p s p less (omega arith) in
    let sides : (p + s * n) * r ≤ c * (s * p) * r = omega arith in
    le_of_mul-le-mul_right sides positive

pub FitsLanes-greater : (r s : ℕ) (rs : List ℕ) (lanes : ℕ) → 0 < r → r ≤ s → FitsLanes (r ∷ rs) lanes
    → FitsLanes (s ∷ rs) lanes
FitsLanes-greater r s rs lanes positive less fits =
    greater_step r s (product rs) (reciprocals rs) lanes positive less fits

-- what a bisection of the half keeps: it fits at `high`, and at no half below `low`
pub record IsBetween (items : List ℕ) (lanes low high : ℕ) : Type 0 where
  pub some : 0 < low
  pub order : low ≤ high
  pub most : high < 2 ^ 31
  pub fits : FitsLanes (2 * high ∷ items) lanes
  pub below : (half : ℕ) → 0 < half → half < low → ¬ FitsLanes (2 * half ∷ items) lanes

pub IsBetween-start : (items : List ℕ) (lanes : ℕ) → FitsLanes (4294967294 ∷ items) lanes
    → IsBetween items lanes 1 (2 ^ 31 - 1)
IsBetween-start items lanes room = record {
  some = omega arith;
  order = omega arith;
  most = omega arith;
  fits = room;
  below = λ half some none. absurd (omega arith);
}

module _ (items : List ℕ) (lanes low high : ℕ) (h : IsBetween items lanes low high) where
  pub IsBetween-fits : (half : ℕ) → low ≤ half → half < high → FitsLanes (2 * half ∷ items) lanes
      → IsBetween items lanes low half
  IsBetween-fits half above below fits = let m = h.most in record {
    some = h.some;
    order = above;
    most = omega arith;
    fits = fits;
    below = h.below;
  }

  pub IsBetween-fails : (half : ℕ) → low ≤ half → half < high → ¬ FitsLanes (2 * half ∷ items) lanes
      → IsBetween items lanes (half + 1) high
  IsBetween-fails half above below fails = record {
    some = omega arith;
    order = omega arith;
    most = h.most;
    fits = h.fits;
    below = λ lower some less fits. fails (FitsLanes-greater (2 * lower) (2 * half) items lanes (omega arith)
        (omega arith) fits);
  }

  pub IsLeastEven-met : high ≤ low → IsLeastEven items lanes (2 * high)
  IsLeastEven-met met =
      let o = h.order in
      let s = h.some in
      record {
        even = (high, omega arith, refl);
        fits = h.fits;
        least = λ lower even less fits.
            let e = even.2 in
            h.below even.0 even.1 (omega arith) (subst (λ r. FitsLanes (r ∷ items) lanes) even.2 fits);
      }

-- a lone item fits with ratio 2 where there is a lane
pub IsLeastEven-alone : (items : List ℕ) (lanes : ℕ) → items ≡ [] → FitsLanes (4294967294 ∷ items) lanes
    → IsLeastEven items lanes 2
IsLeastEven-alone items lanes none room =
    let fits : FitsLanes (4294967294 ∷ []) lanes =
    subst (λ (rs : List ℕ). FitsLanes (4294967294 ∷ rs) lanes) none room in
    subst (λ (rs : List ℕ). IsLeastEven rs lanes 2) (sym none) record {
      even = (1, omega arith, refl);
      fits = omega arith;
      least = λ lower even less _. let e = even.2 in let p = even.1 in absurd (omega arith);
    }
