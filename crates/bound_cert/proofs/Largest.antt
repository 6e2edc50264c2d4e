-- The largest of some numbers.
use Rattle.std.proofs.Common.{◌≡◌, ℕ, zero, suc, ◌+◌, ◌<◌, ◌≤◌, ◌⊎◌, Bool, true, false, cond, ltb, eqb, List, [], ◌∷◌, ◌++◌, length, get_or, map, take, refl, ap, ◌∙◌, inl, inr, arith}
use Rattle.std.specs.Prelude.{max, Contains}
use Rattle.std.specs.Ordering.{ord_max, nat_cmp, is_lt}
use Rattle.std.specs.declared.cmp.Ordering.TheVariants.{Less, Equal, Greater}
use Rattle.std.proofs.lemmas.Bool.{ltb-true, ltb-false, cases_lt}
use Rattle.std.proofs.lemmas.List.{map_more}
use Rattle.tdm_problem.specs.Value.{largest}

-- of a list with another number behind it
largest_push : (xs : List ℕ) (y : ℕ) → largest (xs ++ y ∷ []) ≡ max (largest xs) y
largest_push [] y = omega arith
largest_push (x ∷ xs) y = omega (arith, largest_push xs y)

-- one more of a list, in a loop over it
pub largest_more : {A : Type 0} (f : A → ℕ) (xs : List A) (i : ℕ) (d : A) → i < length xs
    → largest (map f (take (i + 1) xs)) ≡ max (largest (map f (take i xs))) (f (get_or xs i d))
largest_more f xs i d there = ap largest (map_more f xs i d there)
    ∙ largest_push (map f (take i xs)) (f (get_or xs i d))

-- the larger of two numbers by their order is their maximum
larger : (a b : ℕ) (less same : Bool) → ltb b a ≡ less
    → cond (is_lt (cond less Less (cond same Equal Greater))) a b ≡ max a b
larger a b true same e = omega (arith, ltb-true b a e)
larger a b false true e = omega (arith, ltb-false b a e)
larger a b false false e = omega (arith, ltb-false b a e)

pub ord_max_is : (a b : ℕ) → ord_max nat_cmp a b ≡ max a b
ord_max_is a b = larger a b (ltb b a) (eqb b a) refl

module _ {A : Type 0} (f : A → ℕ) where
  -- none of the numbers is larger
  pub largest-above : (xs : List A) (x : A) → Contains xs x → f x ≤ largest (map f xs)
  largest-above [] x (k, there, is) = absurd (omega arith)
  largest-above (y ∷ xs) x (zero, there, is) = omega (arith, ap f is)
  largest-above (y ∷ xs) x (suc k, there, is) = omega (arith, largest-above xs x (k, omega arith, is))

  -- it is as small as all the numbers are
  pub largest-within : (xs : List A) (most : ℕ) → ((x : A) → Contains xs x → f x ≤ most)
      → largest (map f xs) ≤ most
  largest-within [] most within = omega arith
  largest-within (y ∷ xs) most within =
      omega (
        arith,
        within y (0, omega arith, refl),
        largest-within xs most (λ x there. within x (suc there.0, omega (arith, there.1), there.2)),
      )

  -- it is one of them
  pub largest-reached : (xs : List A) → 0 < length xs → (x : A) × Contains xs x × (f x ≡ largest (map f xs))
  largest-reached [] some = absurd (omega arith)
  largest-reached (y ∷ []) some = (y, (0, omega arith, refl), omega arith)
  largest-reached (y ∷ z ∷ xs) some =
      go (largest-reached (z ∷ xs) (omega arith)) (cases_lt (f y) (largest (map f (z ∷ xs))))
    where
      go : (x : A) × Contains (z ∷ xs) x × (f x ≡ largest (map f (z ∷ xs))) → (f y < largest (map f (z ∷ xs)))
          ⊎ (largest (map f (z ∷ xs)) ≤ f y) → (x : A) × Contains (y ∷ z ∷ xs) x
          × (f x ≡ largest (map f (y ∷ z ∷ xs)))
      go rest (inl later) = (rest.0, (suc rest.1.0, omega (arith, rest.1.1), rest.1.2), omega (arith, rest.2))
      go rest (inr first) = (y, (0, omega arith, refl), omega arith)
