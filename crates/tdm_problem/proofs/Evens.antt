use Rattle.std.proofs.Common.{◌≡◌, ℕ, zero, suc, ◌+◌, ◌*◌, ◌<◌, ◌≤◌, List, [], ◌∷◌, max, map, ⊎_elim, arith}
use Rattle.std.specs.Prelude.{All, sum_by}
use Rattle.std.proofs.lemmas.Bool.{cases_lt}
use Rattle.std.proofs.lemmas.List.Elements.{All-head, All-tail, All-weaker}
use Rattle.std.proofs.lemmas.List.Sums.{sum_by-cons}
use Rattle.tdm_problem.specs.Board.{Board}
use Rattle.tdm_problem.specs.Legal.{IsEvenRatio}
use Rattle.tdm_problem.specs.Routing.{Routing, ratios_of}
use Rattle.tdm_problem.specs.Value.{net_sum, group_sum, largest, value_of}
use Rattle.tdm_problem.specs.Laws.{EvenLaw}

-- the number is even
abbrev pub IsEven : ℕ → Type 0
IsEven n = (half : ℕ) × (n ≡ 2 * half)

-- a sum of even numbers is even
pub sum_by-even : {A : Type 0} (f : A → ℕ) (xs : List A) → All (λ x. IsEven (f x)) xs → IsEven (sum_by f xs)
sum_by-even f [] even = (0, omega arith)
sum_by-even f (x ∷ xs) even =
    let here : IsEven (f x) = All-head (λ y. IsEven (f y)) x xs even in
    let rest : IsEven (sum_by f xs) = sum_by-even f xs (All-tail (λ y. IsEven (f y)) x xs even) in
    (here.0 + rest.0, omega (arith, sum_by-cons f x xs, here.1, rest.1))

-- the larger of two even numbers is even
max-even : (a b : ℕ) → IsEven a → IsEven b → IsEven (max a b)
max-even a b a_even b_even =
    ⊎_elim
    (λ (below : a < b). (b_even.0, omega (arith, below, b_even.1)))
    (λ (above : b ≤ a). (a_even.0, omega (arith, above, a_even.1)))
    (cases_lt a b)

-- the largest of even numbers is even
pub largest-even : {A : Type 0} (f : A → ℕ) (xs : List A) → ((x : A) → IsEven (f x))
    → IsEven (largest (map f xs))
largest-even f [] even = (0, omega arith)
largest-even f (x ∷ xs) even = max-even (f x) (largest (map f xs)) (even x) (largest-even f xs even)

-- even ratios have an even sum
net_sum-even : (routing : Routing) (n : ℕ) → All (λ uses. All IsEvenRatio (ratios_of uses)) routing
    → IsEven (net_sum routing n)
net_sum-even [] n even = (0, omega arith)
net_sum-even (uses ∷ routing) zero even =
    sum_by-even (λ x. x) (ratios_of uses)
    (All-weaker IsEvenRatio IsEven (λ ratio is. (is.0, is.2)) (ratios_of uses)
    (All-head (λ us. All IsEvenRatio (ratios_of us)) uses routing even))
net_sum-even (uses ∷ routing) (suc n) even =
    net_sum-even routing n (All-tail (λ us. All IsEvenRatio (ratios_of us)) uses routing even)

-- where each ratio is even, so is the value
pub value_of-even : (board : Board) (routing : Routing)
    → All (λ uses. All IsEvenRatio (ratios_of uses)) routing → IsEven (value_of board routing)
value_of-even board routing even =
    largest-even (group_sum routing) board.groups
    (λ group. sum_by-even (net_sum routing) group (λ k d there. net_sum-even routing _ even))

-- the value of a legal routing is even
pub value_of-legal_even : EvenLaw
value_of-legal_even board routing legal = value_of-even board routing legal.even
