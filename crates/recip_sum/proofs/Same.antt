-- Lists with the same product and the same sum of reciprocals fit the same lanes, and the order of a list
-- does not matter.
use Rattle.std.proofs.Common.{◌≡◌, length, take, get_or, ◌<◌, ◌+◌, ℕ, suc, ◌*◌, ◌≤◌, List, [], ◌∷◌, ◌++◌, arith, refl, sym, ap, subst, ◌∙◌}
use Rattle.std.proofs.lemmas.List.{append-nil, take_more}
use Rattle.tdm_problem.specs.Fit.{product, reciprocals, FitsLanes}
use Rattle.recip_sum.specs.Items.{SameReciprocals}
use Rattle.std.proofs.Math.Nat.{le_of_mul-le-mul_left}
use Rattle.std.proofs.lemmas.List.Sums.{sum_by-cons}

pub SameReciprocals-refl : (xs : List ℕ) → SameReciprocals xs xs
SameReciprocals-refl xs = record { products = refl; sums = refl; lengths = refl; parts = λ part. refl }

pub SameReciprocals-sym : (xs ys : List ℕ) → SameReciprocals xs ys → SameReciprocals ys xs
SameReciprocals-sym xs ys h = record {
  products = sym h.products;
  sums = sym h.sums;
  lengths = sym h.lengths;
  parts = λ part. sym (h.parts part);
}

pub SameReciprocals-trans : (xs ys zs : List ℕ) → SameReciprocals xs ys → SameReciprocals ys zs
    → SameReciprocals xs zs
SameReciprocals-trans xs ys zs h i = record {
  products = h.products ∙ i.products;
  sums = h.sums ∙ i.sums;
  lengths = h.lengths ∙ i.lengths;
  parts = λ part. h.parts part ∙ i.parts part;
}

pub SameReciprocals-cons : (x : ℕ) (xs ys : List ℕ) → SameReciprocals xs ys
    → SameReciprocals (x ∷ xs) (x ∷ ys)
SameReciprocals-cons x xs ys h = record {
  products = ap (λ p. x * p) h.products;
  sums = let p = h.products in let q = ap (λ s. x * s) h.sums in omega arith;
  lengths = ap suc h.lengths;
  parts = λ part. sum_by-cons part x xs ∙ ap (λ s. part x + s) (h.parts part) ∙ sym (sum_by-cons part x ys);
}

pub SameReciprocals-swap : (x y : ℕ) (xs : List ℕ) → SameReciprocals (x ∷ y ∷ xs) (y ∷ x ∷ xs)
SameReciprocals-swap x y xs = record {
  products = omega arith;
  sums = omega arith;
  lengths = refl;
  parts = λ part. omega (
    arith,
    sum_by-cons part x (y ∷ xs),
    sum_by-cons part y xs,
    sum_by-cons part y (x ∷ xs),
    sum_by-cons part x xs,
  );
}

-- an item from the middle goes to the front
pub SameReciprocals-to_front : (xs : List ℕ) (x : ℕ) (ys : List ℕ)
    → SameReciprocals (xs ++ x ∷ ys) (x ∷ (xs ++ ys))
SameReciprocals-to_front [] x ys = SameReciprocals-refl (x ∷ ys)
SameReciprocals-to_front (z ∷ xs) x ys =
    SameReciprocals-trans (z ∷ (xs ++ x ∷ ys)) (z ∷ x ∷ (xs ++ ys)) (x ∷ z ∷ (xs ++ ys))
    (SameReciprocals-cons z _ _ (SameReciprocals-to_front xs x ys)) (SameReciprocals-swap z x (xs ++ ys))

pub SameReciprocals-append : (zs xs ys : List ℕ) → SameReciprocals xs ys
    → SameReciprocals (zs ++ xs) (zs ++ ys)
SameReciprocals-append [] xs ys h = h
SameReciprocals-append (z ∷ zs) xs ys h = SameReciprocals-cons z _ _ (SameReciprocals-append zs xs ys h)

-- a loop's step: x was added to counts that hold what xs holds
pub SameReciprocals-more : (counted more xs : List ℕ) (x : ℕ) → SameReciprocals counted xs
    → SameReciprocals more (x ∷ counted) → SameReciprocals more (xs ++ x ∷ [])
SameReciprocals-more counted more xs x so_far step =
    SameReciprocals-trans more (x ∷ counted) _ step
    (SameReciprocals-trans (x ∷ counted) (x ∷ xs) _ (SameReciprocals-cons x counted xs so_far)
    (SameReciprocals-sym _ _ (subst (λ l. SameReciprocals (xs ++ x ∷ []) (x ∷ l)) (append-nil xs)
    (SameReciprocals-to_front xs x []))))

-- the same where a loop has added the first i of xs, and now adds the next
pub SameReciprocals-take_more : (counted more xs : List ℕ) (i : ℕ) → i < length xs
    → SameReciprocals counted (take i xs) → SameReciprocals more (get_or xs i 0 ∷ counted)
    → SameReciprocals more (take (i + 1) xs)
SameReciprocals-take_more counted more xs i within so_far step =
    subst (λ ys. SameReciprocals more ys) (sym (take_more xs i 0 within))
    (SameReciprocals-more counted more (take i xs) (get_or xs i 0) so_far step)

same_factor : (x a b : ℕ) → 0 < x → x * a ≡ x * b → a ≡ b
same_factor x a b positive same =
    let low : a ≤ b = le_of_mul-le-mul_left {k = x} (omega arith) positive in
    let high : b ≤ a = le_of_mul-le-mul_left {k = x} (omega arith) positive in
    omega arith

pub FitsLanes-same : (xs ys : List ℕ) (lanes : ℕ) → SameReciprocals xs ys → FitsLanes xs lanes
    → FitsLanes ys lanes
FitsLanes-same xs ys lanes h fits =
    subst (λ s. s ≤ lanes * product ys) h.sums (subst (λ p. reciprocals xs ≤ lanes * p) h.products fits)

-- the same positive item taken from both
pub SameReciprocals-cancel : (x : ℕ) (xs ys : List ℕ) → 0 < x → SameReciprocals (x ∷ xs) (x ∷ ys)
    → SameReciprocals xs ys
SameReciprocals-cancel x xs ys positive h =
    let p : product xs ≡ product ys = same_factor x (product xs) (product ys) positive h.products in
    record {
      products = p;
      sums = same_factor x (reciprocals xs) (reciprocals ys) positive (let s = h.sums in omega arith);
      lengths = let l = h.lengths in omega arith;
      parts = λ part. omega (arith, h.parts part, sum_by-cons part x xs, sum_by-cons part x ys);
    }
