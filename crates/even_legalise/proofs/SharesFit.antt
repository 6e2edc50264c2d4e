-- ratios fit that are large enough for shares within the lanes
use Rattle.std.proofs.Common.{◌≡◌, ℕ, ◌+◌, ◌*◌, ◌≤◌, ◌^◌, List, [], ◌∷◌, map, ap, arith}
use Rattle.std.specs.Prelude.{All, sum_by}
use Rattle.std.proofs.lemmas.List.Elements.{All-head, All-tail}
use Rattle.std.proofs.lemmas.List.Sums.{sum_by-cons}
use Rattle.std.proofs.lemmas.Nat.{mul-le}
use Rattle.tdm_problem.specs.Fit.{product, reciprocals}
use Rattle.even_legalise.specs.Laws.{Shared, ShareLaw}

-- one ratio more
reciprocal_step : (r share p n s : ℕ) → 2 ^ 64 ≤ r * share → 2 ^ 64 * n ≤ s * p
    → 2 ^ 64 * (p + r * n) ≤ (share + s) * (r * p)
reciprocal_step r share p n s enough before =
    let here : 2 ^ 64 * p ≤ r * share * p = mul-le (2 ^ 64) p (r * share) p enough (omega arith) in
    let rest : r * (2 ^ 64 * n) ≤ r * (s * p) = mul-le r (2 ^ 64 * n) r (s * p) (omega arith) before in
    omega (arith, here, rest)

-- the reciprocals sum to at most the shares, in lanes
reciprocals-le-shares : (items : List Shared) → All (λ item. 2 ^ 64 ≤ item.ratio * item.share) items
    → 2 ^ 64 * reciprocals (map (λ (item : Shared). item.ratio) items)
    ≤ sum_by (λ (item : Shared). item.share) items * product (map (λ (item : Shared). item.ratio) items)
reciprocals-le-shares [] enough = omega arith
reciprocals-le-shares (item ∷ items) enough =
    let ratios : List ℕ = map (λ (x : Shared). x.ratio) items in
    let more : sum_by (λ (x : Shared). x.share)
    (item ∷ items) * (item.ratio * product (map (λ (x : Shared). x.ratio) items))
    ≡ (item.share + sum_by (λ (x : Shared). x.share) items) * (item.ratio * product
    (map (λ (x : Shared). x.ratio) items)) =
    ap (λ (m : ℕ). m * (item.ratio * product (map (λ (x : Shared). x.ratio) items)))
    (sum_by-cons (λ (x : Shared). x.share) item items) in
    omega (
      arith,
      more,
      reciprocal_step item.ratio item.share (product (map (λ (x : Shared). x.ratio) items))
          (reciprocals (map (λ (x : Shared). x.ratio) items)) (sum_by (λ (x : Shared). x.share) items)
          (All-head (λ (x : Shared). 2 ^ 64 ≤ x.ratio * x.share) item items enough)
          (reciprocals-le-shares items (All-tail (λ (x : Shared). 2 ^ 64 ≤ x.ratio * x.share) item items
          enough)),
    )

fits_from_sum : (n p s lanes : ℕ) → 2 ^ 64 * n ≤ s * p → s ≤ lanes * 2 ^ 64 → n ≤ lanes * p
fits_from_sum n p s lanes within few =
    let most : s * p ≤ lanes * 2 ^ 64 * p = mul-le s p (lanes * 2 ^ 64) p few (omega arith) in
    omega (arith, most, within)

pub share_law : ShareLaw
share_law items lanes enough few =
    fits_from_sum (reciprocals (map (λ (item : Shared). item.ratio) items))
    (product (map (λ (item : Shared). item.ratio) items)) (sum_by (λ (item : Shared). item.share) items)
    lanes (reciprocals-le-shares items enough) few
