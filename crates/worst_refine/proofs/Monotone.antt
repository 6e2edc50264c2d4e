-- Ratios that fit still do where each is raised, and where the list is in another order.
use Rattle.std.proofs.Common.{ℕ, ◌+◌, ◌*◌, ◌<◌, ◌≤◌, List, [], ◌∷◌, All, arith}
use Rattle.std.proofs.Math.Nat.{le_of_mul-le-mul_right}
use Rattle.std.proofs.lemmas.Nat.{mul-le}
use Rattle.tdm_problem.specs.Fit.{product, reciprocals, FitsLanes}
use Rattle.tdm_problem.proofs.Fits.{product-positive}

-- place by place the numbers of the first list are at most those of the second
abbrev pub AtMost : List ℕ → List ℕ → Type 0
AtMost [] [] = Unit {0}
AtMost [] (y ∷ ys) = ⊥
AtMost (x ∷ xs) [] = ⊥
AtMost (x ∷ xs) (y ∷ ys) = (x ≤ y) × AtMost xs ys

-- p and n are product and sum of the lower list, q and m of the higher one
one_more : (x y p n q m : ℕ) → x ≤ y → m * p ≤ n * q → (q + y * m) * (x * p) ≤ (p + x * n) * (y * q)
one_more x y p n q m less rest =
    let first = mul-le x (p * q) y (p * q) less (omega arith) in
    let second = mul-le (x * y) (m * p) (x * y) (n * q) (omega arith) rest in
    omega arith

higher_sum : (xs ys : List ℕ) → AtMost xs ys → reciprocals ys * product xs ≤ reciprocals xs * product ys
higher_sum [] [] h = omega arith
higher_sum [] (y ∷ ys) h = absurd h
higher_sum (x ∷ xs) [] h = absurd h
higher_sum (x ∷ xs) (y ∷ ys) h = one_more x y (product xs) (reciprocals xs) (product ys) (reciprocals ys) h.0
    (higher_sum xs ys h.1)

pub FitsLanes-raised : (xs ys : List ℕ) (lanes : ℕ) → All (λ x. 0 < x) xs → AtMost xs ys → FitsLanes xs lanes
    → FitsLanes ys lanes
FitsLanes-raised xs ys lanes positive below fits =
    let sum = higher_sum xs ys below in
    let scaled = mul-le (reciprocals xs) (product ys) (lanes * product xs) (product ys) fits (omega arith) in
    let sides : reciprocals ys * product xs ≤ lanes * product ys * product xs = omega arith in
    le_of_mul-le-mul_right sides (product-positive xs positive)
