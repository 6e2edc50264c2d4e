use Rattle.std.proofs.Common.{◌≡◌, ℕ, ◌+◌, ◌-◌, ◌*◌, ◌<◌, ◌≤◌, List, [], ◌∷◌, map, subst, ⊎_elim, arith, mul-le-mul_left, mul-le-mul_right, le_of_mul-le-mul_right}
use Rattle.std.specs.Prelude.{All, sum_by}
use Rattle.std.proofs.lemmas.Bool.{cases_lt}
use Rattle.std.proofs.lemmas.List.Elements.{All-head, All-tail, All-map, All-weaker}
use Rattle.std.proofs.lemmas.List.Sums.{sum_by-cons}
use Rattle.tdm_problem.specs.Fit.{product, reciprocals, FitsLanes}
use Rattle.tdm_problem.specs.Laws.{Priced, IsPriced, TangentLaw}
use Rattle.tdm_problem.proofs.Fits.{product-positive}

-- twice a product is at most the sum of the squares, where the second is the first and a rest
twice-apart : (a d : ℕ) → 2 * a * (a + d) ≤ a * a + (a + d) * (a + d)
twice-apart a d = omega arith

-- twice a product is at most the sum of the squares
pub twice-product : (a b : ℕ) → 2 * a * b ≤ a * a + b * b
twice-product a b =
    ⊎_elim
    (λ (below : a < b).
    let apart : a + (b - a) ≡ b = omega (arith, below) in
    let step : 2 * a * (a + (b - a)) ≤ a * a + (a + (b - a)) * (a + (b - a)) = twice-apart a (b - a) in
    subst (λ (x : ℕ). 2 * a * x ≤ a * a + x * x) apart step)
    (λ (above : b ≤ a).
    let apart : b + (a - b) ≡ a = omega (arith, above) in
    let step : 2 * b * (b + (a - b)) ≤ b * b + (b + (a - b)) * (b + (a - b)) = twice-apart b (a - b) in
    let turned : 2 * b * a ≤ b * b + a * a = subst (λ (x : ℕ). 2 * b * x ≤ b * b + x * x) apart step in
    omega (arith, turned))
    (cases_lt a b)

-- one item more, over the product of all
step : (l r s p n roots squares : ℕ) → 2 * l * p * roots ≤ p * squares + l * l * n →
    2 * l * (r * p) * (s + roots) ≤ (r * p) * (s * s * r + squares) + l * l * (p + r * n)
step l r s p n roots squares before =
    let rest : r * (2 * l * p * roots) ≤ r * (p * squares + l * l * n) = mul-le-mul_left r before in
    let here : p * (2 * l * (r * s)) ≤ p * (l * l + r * s * (r * s)) =
    mul-le-mul_left p (twice-product l (r * s)) in
    omega (arith, rest, here)

module _ {A : Type 0} (r p s : A → ℕ) (lanes l : ℕ) where
  -- the law over the product of all, with the sum of the reciprocals
  over_product : (xs : List A) →
      2 * l * product (map r xs) * sum_by s xs ≤ product (map r xs) * sum_by (λ x. s x * s x * r x) xs
      + l * l * reciprocals (map r xs)
  over_product [] = omega arith
  over_product (x ∷ xs) =
      let more = step l (r x) (s x) (product (map r xs)) (reciprocals (map r xs)) (sum_by s xs)
      (sum_by (λ x. s x * s x * r x) xs) (over_product xs) in
      rw (sum_by-cons s x xs, sum_by-cons (λ x. s x * s x * r x) x xs) more

  -- the same with the square of each s in the price's place
  over_squares : (xs : List A) → All (λ x. 0 < r x) xs → FitsLanes (map r xs) lanes →
      2 * l * sum_by s xs ≤ sum_by (λ x. s x * s x * r x) xs + lanes * (l * l)
  over_squares xs positive fits =
      let whole : 0 < product (map r xs) = product-positive (map r xs) (All-map (λ y. 0 < y) r xs positive) in
      let scaled : l * l * reciprocals (map r xs) ≤ l * l * (lanes * product (map r xs)) =
      mul-le-mul_left (l * l) fits in
      let sides : 2 * l * sum_by s xs * product (map r xs)
      ≤ (sum_by (λ x. s x * s x * r x) xs + lanes * (l * l)) * product (map r xs) =
      omega (arith, over_product xs, scaled) in
      le_of_mul-le-mul_right sides whole

  -- a price is at least the square
  squares-le : (xs : List A) → All (λ x. s x * s x ≤ p x) xs → sum_by (λ x. s x * s x * r x) xs
      ≤ sum_by (λ x. p x * r x) xs
  squares-le [] priced = omega arith
  squares-le (x ∷ xs) priced =
      let here : s x * s x * r x ≤ p x * r x =
      mul-le-mul_right (r x) (All-head (λ y. s y * s y ≤ p y) x xs priced) in
      let rest : sum_by (λ y. s y * s y * r y) xs ≤ sum_by (λ y. p y * r y) xs =
      squares-le xs (All-tail (λ y. s y * s y ≤ p y) x xs priced) in
      omega (arith, here, rest, sum_by-cons (λ y. s y * s y * r y) x xs, sum_by-cons (λ y. p y * r y) x xs)

  -- where the ratios r fit, and the square of each s is at most the price p, the prices times the ratios sum
  -- to at least
  -- twice the sum of s at any length, less the square of the length a lane
  pub tangent : (xs : List A) → All (λ x. 0 < r x) xs → All (λ x. s x * s x ≤ p x) xs
      → FitsLanes (map r xs) lanes →
      2 * l * sum_by s xs ≤ sum_by (λ x. p x * r x) xs + lanes * (l * l)
  tangent xs positive priced fits = omega (arith, over_squares xs positive fits, squares-le xs priced)

-- the law, for priced ratios
pub tangent-priced : TangentLaw
tangent-priced items lanes l priced fits =
    tangent (λ (item : Priced). item.ratio) (λ item. item.price) (λ item. item.root) lanes l items
    (All-weaker IsPriced (λ item. 0 < item.ratio) (λ item is. is.positive) items priced)
    (All-weaker IsPriced (λ item. item.root * item.root ≤ item.price) (λ item is. is.square_at_most) items
    priced)
    fits
