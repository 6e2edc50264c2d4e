-- Counting the groups that hold each net.
use Rattle.std.proofs.Common.{◌≡◌, ◌≢◌, ℕ, ◌+◌, ◌*◌, ◌<◌, ◌≤◌, ◌⊎◌, Bool, true, false, cond, List, [], ◌∷◌, length, get_or, set, take, refl, sym, ap, ◌∙◌, subst, inl, inr, arith, get_or-set_same, get_or-set_other}
use Rattle.std.specs.Prelude.{◌==◌, ◌||◌, AllPairs, count_by, replicate, slice_index}
use Rattle.std.specs.List.{list_any}
use Rattle.std.proofs.Math.Bool.{or-true, or-false}
use Rattle.std.proofs.lemmas.Bool.{cases_eq, eq-eqb, ne_eqb}
use Rattle.std.proofs.lemmas.List.{length-set, get_or-take, length-take-le, get_or_default, length-replicate, get_or-replicate}
use Rattle.std.proofs.lemmas.List.Folds.{list_any_more, list_any_none}
use Rattle.std.proofs.lemmas.List.Sums.{sum_by-cons, sum_by_more, count_by-le-length}
use Rattle.tdm_problem.specs.Weights.{net_weight}

-- whether the group holds the net
abbrev pub holds : List ℕ → ℕ → Bool
holds group n = list_any (λ m. m == n) group

-- 1 where the first of a group's nets hold net n, else 0
abbrev pub one_if : Bool → ℕ
one_if b = cond b 1 0

-- each net among the first so many of the group has one more
pub record IsCounted (group : List ℕ) (i : ℕ) (old new : List ℕ) : Type 0 where
  pub count : length new ≡ length old
  pub each : (n : ℕ) → slice_index new n ≡ slice_index old n + one_if (holds (take i group) n)

pub counted_none : (group counts : List ℕ) → IsCounted group 0 counts counts
counted_none group counts = record { count = refl; each = λ n. omega arith }

-- a net of the group is not among those before it
not_before : (group : List ℕ) (i : ℕ) → AllPairs (λ x y. x ≢ y) group → i < length group
    → holds (take i group) (get_or group i 0) ≡ false
not_before group i distinct there =
    list_any_none (λ m. m == get_or group i 0) (take i group)
    (λ k d below.
    let before : k < i = omega (arith, length-take-le i group (omega arith)) in
    ne_eqb (get_or (take i group) k d) (get_or group i 0)
    (λ same. distinct k i 0 before there (get_or_default group k 0 d (omega arith)
    ∙ sym (get_or-take i group k d before) ∙ same)))

pub counted_more : (group old new : List ℕ) (i : ℕ) → AllPairs (λ x y. x ≢ y) group → i < length group
    → get_or group i 0 < length new → IsCounted group i old new
    → IsCounted group (i + 1) old (set new (get_or group i 0) (get_or new (get_or group i 0) 0 + 1))
counted_more group old new i distinct there below so_far = record {
  count = length-set new x (get_or new x 0 + 1) ∙ so_far.count;
  each = λ n. go n (cases_eq n x);
}
  where
    x : ℕ
    x = get_or group i 0

    more : (n : ℕ) → holds (take (i + 1) group) n ≡ (holds (take i group) n || (x == n))
    more n = list_any_more (λ m. m == n) group i 0 there

    at_x : slice_index (set new x (get_or new x 0 + 1)) x ≡ slice_index old x
        + one_if (holds (take (i + 1) group) x)
    at_x =
        let now : one_if (holds (take (i + 1) group) x) ≡ 1 =
        ap one_if (more x ∙ ap (λ (b : Bool). holds (take i group) x || b) (eq-eqb x x refl)
        ∙ or-true (holds (take i group) x)) in
        let before : one_if (holds (take i group) x) ≡ 0 = ap one_if (not_before group i distinct there) in
        omega (arith, get_or-set_same new x (get_or new x 0 + 1) 0 below, so_far.each x, now, before)

    go : (n : ℕ) → (n ≡ x) ⊎ (n ≡ x → ⊥) → slice_index (set new x (get_or new x 0 + 1)) n ≡ slice_index old n
        + one_if (holds (take (i + 1) group) n)
    go n (inl same) = subst (λ (m : ℕ). slice_index (set new x (get_or new x 0 + 1)) m ≡ slice_index old m
        + one_if (holds (take (i + 1) group) m)) (sym same) at_x
    go n (inr other) =
        let now : one_if (holds (take (i + 1) group) n) ≡ one_if (holds (take i group) n) =
        ap one_if (more n ∙ ap (λ (b : Bool). holds (take i group) n || b)
        (ne_eqb x n (λ same. other (sym same))) ∙ or-false (holds (take i group) n)) in
        omega (arith, get_or-set_other new x n (get_or new x 0 + 1) 0 other, so_far.each n, now)

-- the count at the next net of the group is as it was
pub count_before : (group old new : List ℕ) (i : ℕ) → AllPairs (λ x y. x ≢ y) group → i < length group
    → IsCounted group i old new → slice_index new (get_or group i 0) ≡ slice_index old (get_or group i 0)
count_before group old new i distinct there so_far =
    omega (arith, so_far.each (get_or group i 0), ap one_if (not_before group i distinct there))

-- each net has been counted for the groups before group g
pub record IsHeld (groups : List (List ℕ)) (nets g : ℕ) (counts : List ℕ) : Type 0 where
  pub count : length counts ≡ nets
  pub each : (n : ℕ) → n < nets → slice_index counts n ≡ count_by (λ group. holds group n) (take g groups)

pub held_none : (groups : List (List ℕ)) (nets : ℕ) (counts : List ℕ) → counts ≡ replicate nets 0
    → IsHeld groups nets 0 counts
held_none groups nets counts zeros = record {
  count = ap length zeros ∙ length-replicate nets (let none : ℕ = 0 in none);
  each = λ n there. ap (λ (xs : List ℕ). slice_index xs n) zeros ∙ get_or-replicate nets n 0 0 there;
}

pub held_more : (groups : List (List ℕ)) (nets g : ℕ) (group counts counts' : List ℕ)
    → IsHeld groups nets g counts → g < length groups → get_or groups g [] ≡ group
    → length counts' ≡ length counts
    → ((n : ℕ) → n < length counts → slice_index counts' n ≡ slice_index counts n + one_if (holds group n))
    → IsHeld groups nets (g + 1) counts'
held_more groups nets g group counts counts' so_far there is long counted = record {
  count = long ∙ so_far.count;
  each = λ n below.
      omega (
        arith,
        counted n (omega (arith, so_far.count)),
        so_far.each n below,
        sum_by_more (λ (gs : List ℕ). one_if (holds gs n)) groups g [] there,
        ap (λ (gs : List ℕ). one_if (holds gs n)) is,
      );
}

-- no net is counted more often than there are groups before
pub held_few : (groups : List (List ℕ)) (nets g : ℕ) (counts : List ℕ) → IsHeld groups nets g counts
    → g ≤ length groups → (n d : ℕ) → n < length counts → get_or counts n d ≤ g
held_few groups nets g counts so_far within n d there =
    omega (
      arith,
      get_or_default counts n d 0 there,
      so_far.each n (omega (arith, so_far.count)),
      count_by-le-length (λ (group : List ℕ). holds group n) (take g groups),
      length-take-le g groups within,
    )

-- where each group has the same weight, that of a net is the weight times the groups that hold it
weight-one : (b : Bool) (weight : ℕ) → cond b weight 0 ≡ weight * one_if b
weight-one true weight = omega arith
weight-one false weight = omega arith

pub net_weight-uniform : (groups : List (List ℕ)) (weight n : ℕ)
    → net_weight groups (replicate (length groups) weight) n
    ≡ weight * count_by (λ group. holds group n) groups
net_weight-uniform [] weight n = omega arith
net_weight-uniform (group ∷ groups) weight n =
    omega (
      arith,
      weight-one (holds group n) weight,
      net_weight-uniform groups weight n,
      ap (λ (k : ℕ). weight * k) (sum_by-cons (λ (gs : List ℕ). one_if (holds gs n)) group groups),
    )
