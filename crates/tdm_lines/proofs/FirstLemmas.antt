-- The first numbers of a line with one number more.
use Rattle.std.proofs.Common.{◌≡◌, ℕ, ◌<◌, ◌≤◌, List, [], ◌∷◌, ◌++◌, length, take, sym, ap, ◌∙◌, arith, length-append, min}
use Rattle.std.specs.List.{All}
use Rattle.std.proofs.lemmas.List.{take_all, take-append-le, length-take}
use Rattle.std.proofs.lemmas.List.Elements.{All-nil, All-cons, All-head, All-tail}

-- what holds of each number of a list and of one more
all-split : (P : ℕ → Type 0) (xs : List ℕ) (n : ℕ) → All P (xs ++ n ∷ []) → All P xs × P n
all-split P [] n each = (All-nil P, All-head P n [] each)
all-split P (x ∷ xs) n each =
    let later = all-split P xs n (All-tail P x (xs ++ n ∷ []) each) in
    (All-cons P x xs (All-head P x (xs ++ n ∷ []) each) later.0, later.1)

-- the number is kept
pub first-push : (most largest n m : ℕ) (kept numbers : List ℕ)
    → (All (λ x. x ≤ largest) numbers → kept ≡ take most numbers) → (n ≤ largest → m ≡ n) → length kept < most
    → All (λ x. x ≤ largest) (numbers ++ n ∷ []) → kept ++ m ∷ [] ≡ take most (numbers ++ n ∷ [])
first-push most largest n m kept numbers first same room within =
    let old : kept ≡ take most numbers = first (all-split (λ x. x ≤ largest) numbers n within).0 in
    let here : m ≡ n = same (all-split (λ x. x ≤ largest) numbers n within).1 in
    let count : length kept ≡ min most (length numbers) = ap length old ∙ length-take most numbers in
    let few : length numbers < most = omega (arith, count, room) in
    ap (λ (ks : List ℕ). ks ++ m ∷ []) (old ∙ take_all most numbers (omega (arith, few)))
    ∙ ap (λ x. numbers ++ x ∷ []) here
    ∙ sym (take_all most (numbers ++ n ∷ []) (omega (arith, few, length-append numbers (n ∷ []))))

-- there is no room for it
pub first-full : (most largest n : ℕ) (kept numbers : List ℕ)
    → (All (λ x. x ≤ largest) numbers → kept ≡ take most numbers) → most ≤ length kept
    → All (λ x. x ≤ largest) (numbers ++ n ∷ []) → kept ≡ take most (numbers ++ n ∷ [])
first-full most largest n kept numbers first full within =
    let old : kept ≡ take most numbers = first (all-split (λ x. x ≤ largest) numbers n within).0 in
    let count : length kept ≡ min most (length numbers) = ap length old ∙ length-take most numbers in
    old ∙ sym (take-append-le most numbers (n ∷ []) (omega (arith, count, full)))
