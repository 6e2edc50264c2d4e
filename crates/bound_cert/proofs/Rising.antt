-- Numbers are put in rising order.
use Rattle.std.proofs.Common.{◌≡◌, ℕ, zero, suc, ◌+◌, ◌<◌, ◌≤◌, ◌⊎◌, List, [], ◌∷◌, refl, sym, subst, inl, inr, ⊎_elim, arith}
use Rattle.std.specs.Prelude.{Contains, sum_by, slice_index}
use Rattle.std.specs.List.Sorted.{IsStrictlyIncreasing}
use Rattle.std.proofs.lemmas.Bool.{cases_eq}
use Rattle.std.proofs.lemmas.List.Sums.{get_or-le-sum_by}
use Rattle.bound_cert.specs.Growth.{AreRising}

-- a number behind another
later : (x y : ℕ) (ys : List ℕ) → Contains ys y → Contains (x ∷ ys) y
later x y ys (k, inside, is) = (suc k, omega (arith, inside), is)

decide-in : (xs : List ℕ) (y : ℕ) → Contains xs y ⊎ ¬ Contains xs y
decide-in [] y = inr (λ listed. omega (arith, listed.1))
decide-in (x ∷ xs) y = go (cases_eq x y) (decide-in xs y)
  where
    go : (x ≡ y) ⊎ ¬ (x ≡ y) → Contains xs y ⊎ ¬ Contains xs y → Contains (x ∷ xs) y ⊎ ¬ Contains (x ∷ xs) y
    go (inl is) rest = inl (0, omega arith, is)
    go (inr not) (inl listed) = inl (later x y xs listed)
    go (inr not) (inr none) = inr (λ listed. other listed)
      where
        other : Contains (x ∷ xs) y → ⊥
        other (zero, inside, is) = not is
        other (suc k, inside, is) = none (k, omega (arith, inside), is)

module _ (xs : List ℕ) where
  -- rising numbers are those of the list from one number on to another
  record AreFrom (start end : ℕ) (ys : List ℕ) : Type 0 where
    rises : IsStrictlyIncreasing ys
    known : (y : ℕ) → Contains ys y → (start ≤ y) × Contains xs y
    whole : (y : ℕ) → start ≤ y → y < end → Contains xs y → Contains ys y

  with-first : (start end : ℕ) (ys : List ℕ) → Contains xs start → AreFrom (suc start) end ys
      → AreFrom start end (start ∷ ys)
  with-first start end ys listed are = record {
    rises = rises ys are;
    known = known;
    whole = λ y from below in_xs. whole y from below in_xs (cases_eq y start);
  }
    where
      rises : (zs : List ℕ) → AreFrom (suc start) end zs → IsStrictlyIncreasing (start ∷ zs)
      rises [] others k inside = absurd (omega (arith, inside))
      rises (z ∷ zs) others zero inside = omega (arith, (others.known z (0, omega arith, refl)).0)
      rises (z ∷ zs) others (suc k) inside =
          let same : suc (k + 1) ≡ suc k + 1 = omega arith in
          subst (λ (i : ℕ). slice_index (z ∷ zs) k < slice_index (start ∷ z ∷ zs) i) same
          (others.rises k (omega (arith, inside)))

      known : (y : ℕ) → Contains (start ∷ ys) y → (start ≤ y) × Contains xs y
      known y (zero, inside, is) = (omega (arith, is), subst (λ (z : ℕ). Contains xs z) is listed)
      known y (suc k, inside, is) = let behind = are.known y (k, omega (arith, inside), is) in
          (omega (arith, behind.0), behind.1)

      whole : (y : ℕ) → start ≤ y → y < end → Contains xs y → (y ≡ start) ⊎ ¬ (y ≡ start)
          → Contains (start ∷ ys) y
      whole y from below in_xs (inl is) = (0, omega arith, sym is)
      whole y from below in_xs (inr not) =
          later start y ys (are.whole y (omega (arith, from, not)) below in_xs)

  without-first : (start end : ℕ) (ys : List ℕ) → ¬ Contains xs start → AreFrom (suc start) end ys
      → AreFrom start end ys
  without-first start end ys none are = record {
    rises = are.rises;
    known = λ y in_ys. let at = are.known y in_ys in (omega (arith, at.0), at.1);
    whole = λ y from below in_xs. ⊎_elim
        (λ (is : y ≡ start). absurd (none (subst (λ (z : ℕ). Contains xs z) is in_xs)))
        (λ (not : ¬ (y ≡ start)). are.whole y (omega (arith, from, not)) below in_xs)
        (cases_eq y start);
  }

  from : (start count : ℕ) → (ys : List ℕ) × AreFrom start (start + count) ys
  from start zero = (
    [],
    record {
      rises = λ k inside. absurd (omega (arith, inside));
      known = λ y in_ys. absurd (omega (arith, in_ys.1));
      whole = λ y least below in_xs. absurd (omega (arith, least, below));
    },
  )
  from start (suc count) =
      let more = from (suc start) count in
      let are = subst (λ (end : ℕ). AreFrom (suc start) end more.0) (omega arith) more.1 in
      ⊎_elim
      (λ (listed : Contains xs start). (
        start ∷ more.0,
        with-first start (start + suc count) more.0 listed are,
      ))
      (λ (none : ¬ Contains xs start). (more.0, without-first start (start + suc count) more.0 none are))
      (decide-in xs start)

-- numbers can be put in rising order
pub some_rising : (xs : List ℕ) → (rising : List ℕ) × AreRising xs rising
some_rising xs =
    let all = from xs 0 (sum_by (λ x. x) xs + 1) in (
      all.0,
      record {
        rises = all.1.rises;
        same = λ y. (
          λ in_ys. (all.1.known y in_ys).1,
          λ in_xs. all.1.whole y (omega arith)
              (omega (arith, get_or-le-sum_by (λ (x : ℕ). x) xs in_xs.0 y in_xs.1, in_xs.2)) in_xs,
        );
      },
    )
