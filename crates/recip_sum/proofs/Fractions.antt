-- The sum of the reciprocals of all items, and what their terms stand for at the start.
use Rattle.std.proofs.Common.{◌≡◌, ℕ, zero, suc, ◌+◌, ◌*◌, ◌^◌, ◌<◌, ◌≤◌, List, [], ◌∷◌, ◌++◌, All, length, length-append, map, replicate, arith, refl, sym, ap, subst, mul-pos, pow-suc, one-mul, lit<}
use Rattle.std.proofs.Math.Nat.{one-le-pow, le_of_mul-le-mul_right, pow-zero}
use Rattle.std.proofs.lemmas.Nat.{mul-le}
use Rattle.std.proofs.lemmas.List.{length-replicate}
use Rattle.std.proofs.lemmas.List.Sums.{sum_by-cons}
use Rattle.std.proofs.lemmas.List.Elements.{All-tail, All-cons, All-nil}
use Rattle.std.specs.Map.{keys_of}
use Rattle.tdm_problem.specs.Fit.{product, reciprocals, FitsLanes}
use Rattle.recip_sum.specs.declared.long_division.Term.{Term}
use Rattle.recip_sum.specs.LongDivision.{numerator, ratios_of, item_count, start_term, IsTerm}
use Rattle.recip_sum.specs.Items.{items_of}
use Rattle.recip_sum.specs.Kept.{IsRatio}

product-replicate : (k r : ℕ) (xs : List ℕ) → product (replicate k r ++ xs) ≡ r ^ k * product xs
product-replicate zero r xs = rw (pow-zero r) (sym (one-mul (product xs)))
product-replicate (suc k) r xs =
    let rest = ap (λ x. r * x) (product-replicate k r xs) in
    let e : r * product (replicate k r ++ xs) ≡ (r ^ k * r) * product xs = omega arith in
    rw (pow-suc r k) e

one_more_reciprocal : (b r k p s q t : ℕ) → p ≡ b * q → s * r ≡ b * (k * q + r * t)
    → (p + r * s) * r ≡ (b * r) * (suc k * q + r * t)
one_more_reciprocal b r k p s q t products sums =
    let e = ap (λ x. x * r) products in
    let f = ap (λ x. r * x) sums in
    omega arith

reciprocals-replicate : (k r : ℕ) (xs : List ℕ) → reciprocals (replicate k r ++ xs) * r
    ≡ r ^ k * (k * product xs + r * reciprocals xs)
reciprocals-replicate zero r xs = let e : reciprocals xs * r ≡ 1 * (0 * product xs + r * reciprocals xs) =
    omega arith in rw (pow-zero r) e
reciprocals-replicate (suc k) r xs =
    rw (pow-suc r k) (one_more_reciprocal (r ^ k) r k (product (replicate k r ++ xs))
    (reciprocals (replicate k r ++ xs)) (product xs) (reciprocals xs) (product-replicate k r xs)
    (reciprocals-replicate k r xs))

one_more_ratio : (b r k s q s' q' p n : ℕ) → s * r ≡ b * (k * q' + r * s') → q ≡ b * q' → s' * p ≡ n * q'
    → s * (r * p) ≡ (k * 1 * p + r * n) * q
one_more_ratio b r k s q s' q' p n sums products rest =
    let e = ap (λ x. x * p) sums in
    let f = ap (λ x. (k * 1 * p + r * n) * x) products in
    let h = ap (λ x. b * r * x) rest in
    omega arith

pub ratios_of-start : (es : List (ℕ × ℕ)) → ratios_of (map start_term es) ≡ keys_of es
ratios_of-start [] = refl
ratios_of-start (e ∷ es) = ap (λ rs. e.0 ∷ rs) (ratios_of-start es)

pub item_count-start : (es : List (ℕ × ℕ)) → item_count (map start_term es) ≡ length (items_of es)
item_count-start [] = refl
item_count-start (e ∷ es) =
    omega (
      arith,
      item_count-start es,
      sum_by-cons (λ (t : Term). t.count) (start_term e) (map start_term es),
      length-append (replicate e.1 e.0) (items_of es),
      length-replicate e.1 e.0,
    )

pub IsTerm-start : (es : List (ℕ × ℕ)) → All IsRatio (keys_of es) → All IsTerm (map start_term es)
IsTerm-start [] h = All-nil IsTerm
IsTerm-start (e ∷ es) h =
    let here = h 0 e.0 (omega arith) in
    All-cons IsTerm (start_term e) (map start_term es) record {
      positive = here.0;
      bound = here.1;
      rest = omega (arith, here.0);
    } (IsTerm-start es (All-tail IsRatio e.0 (keys_of es) h))

-- the fraction is the same, with the product of the different ratios below it in place of that of all items
same_fraction : (es : List (ℕ × ℕ)) → reciprocals (items_of es) * product (keys_of es)
    ≡ numerator (map start_term es) * product (items_of es)
same_fraction [] = refl
same_fraction (e ∷ es) =
    let step = one_more_ratio (e.0 ^ e.1) e.0 e.1 (reciprocals (items_of (e ∷ es)))
    (product (items_of (e ∷ es))) (reciprocals (items_of es)) (product (items_of es))
    (product (keys_of es)) (numerator (map start_term es)) (reciprocals-replicate e.1 e.0 (items_of es))
    (product-replicate e.1 e.0 (items_of es)) (same_fraction es) in
    subst (λ rs. reciprocals (items_of (e ∷ es)) * product (keys_of (e ∷ es))
    ≡ (e.1 * 1 * product rs + e.0 * numerator (map start_term es)) * product (items_of (e ∷ es)))
    (sym (ratios_of-start es)) step

product-keys-positive : (es : List (ℕ × ℕ)) → All IsRatio (keys_of es) → 0 < product (keys_of es)
product-keys-positive [] h = lit< tt
product-keys-positive (e ∷ es) h =
    mul-pos (h 0 e.0 (omega arith)).0 (product-keys-positive es (All-tail IsRatio e.0 (keys_of es) h))

product-items-positive : (es : List (ℕ × ℕ)) → All IsRatio (keys_of es) → 0 < product (items_of es)
product-items-positive [] h = lit< tt
product-items-positive (e ∷ es) h =
    let rest = product-items-positive es (All-tail IsRatio e.0 (keys_of es) h) in
    let power = one-le-pow e.1 e.0 (h 0 e.0 (omega arith)).0 in
    rw (product-replicate e.1 e.0 (items_of es)) (mul-pos power rest)

-- a bound on a fraction, where the fraction stands over another denominator
same_bound : (s q n p c : ℕ) → s * p ≡ n * q → 0 < p → n ≤ c * p → s ≤ c * q
same_bound s q n p c same positive bound =
    let scaled = mul-le n q (c * p) q bound (omega arith) in
    let turned : s * p ≤ c * q * p = omega arith in
    le_of_mul-le-mul_right turned positive

module _ (es : List (ℕ × ℕ)) (lanes : ℕ) (ratios : All IsRatio (keys_of es)) where
  pub fits_from_terms : numerator (map start_term es) ≤ lanes * product (ratios_of (map start_term es))
      → FitsLanes (items_of es) lanes
  fits_from_terms bound =
      same_bound (reciprocals (items_of es)) (product (items_of es)) (numerator (map start_term es))
      (product (keys_of es)) lanes (same_fraction es) (product-keys-positive es ratios)
      (subst (λ rs. numerator (map start_term es) ≤ lanes * product rs) (ratios_of-start es) bound)

  pub terms_from_fits : FitsLanes (items_of es) lanes → numerator (map start_term es)
      ≤ lanes * product (ratios_of (map start_term es))
  terms_from_fits fits =
      subst (λ rs. numerator (map start_term es) ≤ lanes * product rs) (sym (ratios_of-start es))
      (same_bound (numerator (map start_term es)) (product (keys_of es)) (reciprocals (items_of es))
      (product (items_of es)) lanes (sym (same_fraction es)) (product-items-positive es ratios) fits)
