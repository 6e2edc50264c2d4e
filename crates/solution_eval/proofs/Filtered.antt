-- what a filter keeps
use Rattle.std.proofs.Common.{◌≡◌, ℕ, zero, suc, ◌+◌, ◌-◌, ◌≤◌, Bool, true, false, List, [], ◌∷◌, ◌++◌, length, take, drop, sym, ap, ◌∙◌, subst, refl, inl, inr, arith}
use Rattle.std.specs.Prelude.{All, Contains, filter}
use Rattle.std.specs.List.{AllWithin}
use Rattle.std.proofs.lemmas.Bool.{cond-true, cond-false, cases_Bool}
use Rattle.std.proofs.lemmas.List.{take-append-drop, length-take, length-drop, get_or-take, get_or-drop, append-nil}
use Rattle.std.proofs.lemmas.List.Elements.{All-head, All-tail, All-contains, All-contains_itself, All-filter, filter-append}

pub filter_none : {X : Type 0} (p : X → Bool) (xs : List X) → All (λ x. p x ≡ false) xs → filter p xs ≡ []
filter_none p [] fails = refl
filter_none p (x ∷ xs) fails =
    cond-false (p x) (x ∷ filter p xs) (filter p xs) (All-head (λ y. p y ≡ false) x xs fails)
    ∙ filter_none p xs (All-tail (λ y. p y ≡ false) x xs fails)

pub filter_all : {X : Type 0} (p : X → Bool) (xs : List X) → All (λ x. p x ≡ true) xs → filter p xs ≡ xs
filter_all p [] passes = refl
filter_all p (x ∷ xs) passes =
    cond-true (p x) (x ∷ filter p xs) (filter p xs) (All-head (λ y. p y ≡ true) x xs passes)
    ∙ ap (λ ys. x ∷ ys) (filter_all p xs (All-tail (λ y. p y ≡ true) x xs passes))

-- a filter keeps the part from i to j, where it passes there and fails before and after
pub filter_middle : {X : Type 0} (p : X → Bool) (xs : List X) (i j : ℕ) → i ≤ j → j ≤ length xs
    → AllWithin (λ x. p x ≡ false) xs 0 i → AllWithin (λ x. p x ≡ true) xs i j
    → AllWithin (λ x. p x ≡ false) xs j (length xs) → take (j - i) (drop i xs) ≡ filter p xs
filter_middle p xs i j up inside before within after =
    let front : filter p (take i xs) ≡ [] = filter_none p (take i xs)
    (λ k d h. subst (λ x. p x ≡ false) (sym (get_or-take i xs k d (omega (arith, length-take i xs))))
    (before k d (omega arith) (omega (arith, length-take i xs)))) in
    let middle : filter p (take (j - i) (drop i xs)) ≡ take (j - i) (drop i xs) =
    filter_all p (take (j - i) (drop i xs))
    (λ k d h. subst (λ x. p x ≡ true)
    (sym (get_or-take (j - i) (drop i xs) k d (omega (arith, length-take (j - i) (drop i xs)))
    ∙ get_or-drop i xs k d))
    (within (i + k) d (omega arith) (omega (arith, length-take (j - i) (drop i xs))))) in
    let back : filter p (drop (j - i) (drop i xs)) ≡ [] = filter_none p (drop (j - i) (drop i xs))
    (λ k d h. subst (λ x. p x ≡ false) (sym (get_or-drop (j - i) (drop i xs) k d
    ∙ get_or-drop i xs (j - i + k) d)) (after (i + (j - i + k)) d (omega arith)
    (omega (arith, length-drop (j - i) (drop i xs), length-drop i xs)))) in
    let whole : filter p xs ≡ filter p (take i xs) ++ filter p (drop i xs) =
    ap (filter p) (sym (take-append-drop i xs)) ∙ filter-append p (take i xs) (drop i xs) in
    let split : filter p (drop i xs) ≡ filter p (take (j - i) (drop i xs))
    ++ filter p (drop (j - i) (drop i xs)) = ap (filter p) (sym (take-append-drop (j - i) (drop i xs)))
    ∙ filter-append p (take (j - i) (drop i xs)) (drop (j - i) (drop i xs)) in
    sym (whole ∙ (ap (λ ys. ys ++ filter p (drop i xs)) front
    ∙ (split ∙ (ap (λ ys. filter p (take (j - i) (drop i xs)) ++ ys) back
    ∙ (append-nil (filter p (take (j - i) (drop i xs))) ∙ middle)))))

-- an element that passes stays
pub Contains-filter : {X : Type 0} (p : X → Bool) (xs : List X) (x : X) → p x ≡ true → Contains xs x
    → Contains (filter p xs) x
Contains-filter p [] x passes (k, inside, is) = absurd (omega arith)
Contains-filter p (y ∷ xs) x passes (zero, inside, is) =
    let kept : filter p (y ∷ xs) ≡ y ∷ filter p xs = cond-true (p y) (y ∷ filter p xs) (filter p xs) (ap p is
    ∙ passes) in
    subst (λ ys. Contains ys x) (sym kept) (0, omega arith, is)
Contains-filter p (y ∷ xs) x passes (suc k, inside, is) =
    let rest : Contains (filter p xs) x = Contains-filter p xs x passes (k, omega arith, is) in
    elim (cases_Bool (p y)) [
      | inl passed ↦ subst (λ ys. Contains ys x)
          (sym (cond-true (p y) (y ∷ filter p xs) (filter p xs) passed)) (
            suc rest.0,
            omega (arith, rest.1),
            rest.2,
          )
      | inr failed ↦ subst (λ ys. Contains ys x)
          (sym (cond-false (p y) (y ∷ filter p xs) (filter p xs) failed)) rest
    ]

-- what stays was there
pub Contains-from_filter : {X : Type 0} (p : X → Bool) (xs : List X) (x : X) → Contains (filter p xs) x
    → Contains xs x
Contains-from_filter p xs x there =
    All-contains (Contains xs) (filter p xs) x (All-filter p (Contains xs) xs (All-contains_itself xs)) there
