-- the weights of nets, group by group
use Rattle.std.proofs.Common.{◌≡◌, ◌≢◌, ℕ, zero, suc, ◌+◌, ◌*◌, ◌^◌, ◌<◌, ◌≤◌, Bool, true, false, cond, List, [], ◌∷◌, length, get_or, take, set, sym, ap, ◌∙◌, refl, subst, ⊎_elim, arith}
use Rattle.std.specs.Prelude.{◌==◌, ◌||◌, sum, sum_by, All, AllPairs}
use Rattle.std.specs.List.{list_any}
use Rattle.std.proofs.lemmas.Bool.{eq-eqb, ne_eqb, cases_eq, cond_both, or_right}
use Rattle.std.proofs.lemmas.List.{length-take, get_or-take, get_or_default, get_or-set_same, get_or-set_other}
use Rattle.std.proofs.lemmas.List.Folds.{list_any_more, list_any_none}
use Rattle.std.proofs.lemmas.List.Sums.{sum_by-cons, sum_by-set, sum_by_more}
use Rattle.std.proofs.lemmas.Nat.{mul-le}
use Rattle.tdm_problem.specs.Weights.{net_weight}

-- the weight, where net n is among the nets
abbrev pub weight_in : (nets : List ℕ) → (weight n : ℕ) → ℕ
weight_in nets weight n = cond (list_any (λ m. m == n) nets) weight 0

-- a number of a list without repeats does not stand before its place
pub not_before : (nets : List ℕ) (i : ℕ) → i < length nets → AllPairs (λ m n. m ≢ n) nets
    → list_any (λ m. m == get_or nets i 0) (take i nets) ≡ false
not_before nets i inside distinct =
    list_any_none (λ m. m == get_or nets i 0) (take i nets)
    (λ k d in_take.
    let before : k < i = omega (arith, length-take i nets) in
    ne_eqb (get_or (take i nets) k d) (get_or nets i 0)
    (λ same. distinct k i d before inside (sym (get_or-take i nets k d before)
    ∙ (same ∙ get_or_default nets i 0 d inside))))

-- one net more among the nets
weight_in_more : (nets : List ℕ) (weight i n : ℕ) → i < length nets → weight_in (take (i + 1) nets) weight n
    ≡ cond (list_any (λ m. m == n) (take i nets) || (get_or nets i 0 == n)) weight 0
weight_in_more nets weight i n inside =
    ap (λ (found : Bool). cond found weight 0) (list_any_more (λ m. m == n) nets i 0 inside)

-- the net whose turn it is, and any other one
weight_in_here : (nets : List ℕ) (weight i : ℕ) → i < length nets
    → weight_in (take (i + 1) nets) weight (get_or nets i 0) ≡ weight
weight_in_here nets weight i inside =
    weight_in_more nets weight i (get_or nets i 0) inside
    ∙ ap (λ (found : Bool). cond found weight 0)
    (or_right (list_any (λ m. m == get_or nets i 0) (take i nets)) (get_or nets i 0 == get_or nets i 0)
    (eq-eqb (get_or nets i 0) (get_or nets i 0) refl))

or_false : (x y : Bool) → y ≡ false → (x || y) ≡ x
or_false true y none = refl
or_false false y none = none

weight_in_other : (nets : List ℕ) (weight i n : ℕ) → i < length nets → get_or nets i 0 ≢ n
    → weight_in (take (i + 1) nets) weight n ≡ weight_in (take i nets) weight n
weight_in_other nets weight i n inside other =
    weight_in_more nets weight i n inside
    ∙ ap (λ (found : Bool). cond found weight 0) (or_false (list_any (λ m. m == n) (take i nets))
    (get_or nets i 0 == n) (ne_eqb (get_or nets i 0) n other))

-- what a net had before its turn is what it had at first
pub untouched : (first now nets : List ℕ) (weight i : ℕ) → i < length nets → AllPairs (λ m n. m ≢ n) nets
    → get_or nets i 0 < length first
    → ((n : ℕ) → n < length first → get_or now n 0 ≡ get_or first n 0 + weight_in (take i nets) weight n)
    → get_or now (get_or nets i 0) 0 ≡ get_or first (get_or nets i 0) 0
untouched first now nets weight i inside distinct there before =
    let none : weight_in (take i nets) weight (get_or nets i 0) ≡ 0 =
    ap (λ (found : Bool). cond found weight 0) (not_before nets i inside distinct) in
    omega (arith, before (get_or nets i 0) there)

-- the step of one net
pub weights_more : (first now nets : List ℕ) (weight i : ℕ) → i < length nets → length now ≡ length first
    → AllPairs (λ m n. m ≢ n) nets → get_or nets i 0 < length first
    → ((n : ℕ) → n < length first → get_or now n 0 ≡ get_or first n 0 + weight_in (take i nets) weight n)
    → (n : ℕ) → n < length first
    → get_or (set now (get_or nets i 0) (get_or now (get_or nets i 0) 0 + weight)) n 0 ≡ get_or first n 0
    + weight_in (take (i + 1) nets) weight n
weights_more first now nets weight i inside whole distinct there before n in_first =
    ⊎_elim
    (λ (same : get_or nets i 0 ≡ n).
    let written : get_or (set now (get_or nets i 0) (get_or now (get_or nets i 0) 0 + weight))
    (get_or nets i 0) 0 ≡ get_or now (get_or nets i 0) 0 + weight =
    get_or-set_same now (get_or nets i 0) (get_or now (get_or nets i 0) 0 + weight) 0 (omega arith) in
    let at : get_or (set now (get_or nets i 0) (get_or now (get_or nets i 0) 0 + weight)) (get_or nets i 0) 0
    ≡ get_or first (get_or nets i 0) 0 + weight_in (take (i + 1) nets) weight (get_or nets i 0) =
    omega (
      arith,
      untouched first now nets weight i inside distinct there before,
      weight_in_here nets weight i inside,
    ) in
    subst (λ (k : ℕ). get_or (set now (get_or nets i 0) (get_or now (get_or nets i 0) 0 + weight)) k 0
    ≡ get_or first k 0 + weight_in (take (i + 1) nets) weight k) same at)
    (λ (other : get_or nets i 0 ≢ n).
    let kept : get_or (set now (get_or nets i 0) (get_or now (get_or nets i 0) 0 + weight)) n 0
    ≡ get_or now n 0 = get_or-set_other now (get_or nets i 0) n (get_or now (get_or nets i 0) 0 + weight)
    0 (λ is. other (sym is)) in
    omega (arith, before n in_first, weight_in_other nets weight i n inside other))
    (cases_eq (get_or nets i 0) n)

-- the sum grows by the weight
pub sum_more : (first now : List ℕ) (weight i k : ℕ) → k < length now → sum now ≡ sum first + weight * i
    → sum (set now k (get_or now k 0 + weight)) ≡ sum first + weight * (i + 1)
sum_more first now weight i k there before =
    let grown : sum (set now k (get_or now k 0 + weight)) + get_or now k 0
    ≡ sum now + (get_or now k 0 + weight) =
    sum_by-set (λ (x : ℕ). x) now k (get_or now k 0 + weight) 0 there in
    omega arith

-- one group more
net_weight_suc : (groups : List (List ℕ)) (weights : List ℕ) (g n : ℕ) → g < length groups
    → length weights ≡ length groups → net_weight (take (suc g) groups) weights n
    ≡ net_weight (take g groups) weights n + weight_in (get_or groups g []) (get_or weights g 0) n
net_weight_suc [] weights g n there whole = absurd (omega arith)
net_weight_suc (group ∷ groups) [] g n there whole = absurd (omega arith)
net_weight_suc (group ∷ groups) (weight ∷ weights) zero n there whole = omega arith
net_weight_suc (group ∷ groups) (weight ∷ weights) (suc g) n there whole =
    let rest : net_weight (take (suc g) groups) weights n ≡ net_weight (take g groups) weights n
    + weight_in (get_or groups g []) (get_or weights g 0) n =
    net_weight_suc groups weights g n (omega arith) (omega arith) in
    omega arith

pub net_weight_more : (groups : List (List ℕ)) (weights : List ℕ) (g n : ℕ) → g < length groups
    → length weights ≡ length groups → net_weight (take (g + 1) groups) weights n
    ≡ net_weight (take g groups) weights n + weight_in (get_or groups g []) (get_or weights g 0) n
net_weight_more groups weights g n there whole =
    let next : suc g ≡ g + 1 = omega arith in
    subst (λ (k : ℕ). net_weight (take k groups) weights n ≡ net_weight (take g groups) weights n
    + weight_in (get_or groups g []) (get_or weights g 0) n) next
    (net_weight_suc groups weights g n there whole)

weight_in-le : (nets : List ℕ) (weight n : ℕ) → weight_in nets weight n ≤ weight
weight_in-le nets weight n = cond_both (list_any (λ m. m == n) nets) weight 0 (λ x. x ≤ weight)
    (λ _. omega arith) (λ _. omega arith)

-- a net weighs no more than all groups together
pub net_weight-le : (groups : List (List ℕ)) (weights : List ℕ) (n : ℕ)
    → net_weight groups weights n ≤ sum weights
net_weight-le [] weights n = omega arith
net_weight-le (group ∷ groups) [] n = omega arith
net_weight-le (group ∷ groups) (weight ∷ weights) n =
    omega (
      arith,
      sum_by-cons (λ (w : ℕ). w) weight weights,
      weight_in-le group weight n,
      net_weight-le groups weights n,
    )

-- the list has the weight of each net by the first g groups, and no large number
pub record AreWeightsUpTo (g : ℕ) (groups : List (List ℕ)) (group_weights : List ℕ) (nets : ℕ)
    (weights : List ℕ) : Type 0 where
  pub whole : length weights ≡ nets
  pub each : (n : ℕ) → n < nets → get_or weights n 0 ≡ net_weight (take g groups) group_weights n
  pub small : (n : ℕ) → n < nets → get_or weights n 0 ≤ g * 2 ^ 40
  pub total : sum weights ≤ 2 ^ 40 * sum_by length (take g groups)

-- there is room for the weight of one group more
pub room_for_group : (g : ℕ) (groups : List (List ℕ)) (group_weights : List ℕ) (nets weight : ℕ)
    (weights : List ℕ) → g < 2 ^ 20 → weight ≤ 2 ^ 40 → AreWeightsUpTo g groups group_weights nets weights
    → All (λ before. before + weight < 2 ^ 64) weights
room_for_group g groups group_weights nets weight weights few within are = λ n d inside.
    omega (arith, get_or_default weights n d 0 inside, are.small n (omega (arith, are.whole)))

-- the step of one group
pub group_more : (g : ℕ) (groups : List (List ℕ)) (group_weights : List ℕ) (nets weight : ℕ)
    (row before after : List ℕ) → g < length groups → length group_weights ≡ length groups
    → get_or groups g [] ≡ row → weight ≡ get_or group_weights g 0 → weight ≤ 2 ^ 40
    → length after ≡ length before
    → ((n : ℕ) → n < length before → get_or after n 0 ≡ get_or before n 0 + weight_in row weight n)
    → sum after ≡ sum before + weight * length row → AreWeightsUpTo g groups group_weights nets before
    → AreWeightsUpTo (g + 1) groups group_weights nets after
group_more g groups group_weights nets weight row before after there whole is_row is_weight within kept added
    grown are = record {
      whole = kept ∙ are.whole;
      each = λ n inside.
          let same : weight_in (get_or groups g []) (get_or group_weights g 0) n ≡ weight_in row weight n =
          ap (λ (r : List ℕ). weight_in r (get_or group_weights g 0) n) is_row
          ∙ ap (λ (w : ℕ). weight_in row w n) (sym is_weight) in
          omega (
            arith,
            added n (omega (arith, are.whole)),
            are.each n inside,
            net_weight_more groups group_weights g n there whole,
          );
      small = λ n inside. omega (
        arith,
        added n (omega (arith, are.whole)),
        are.small n inside,
        weight_in-le row weight n,
      );
      total =
          let listed : sum_by length (take (g + 1) groups) ≡ sum_by length (take g groups)
          + length (get_or groups g []) = sum_by_more length groups g [] there in
          let row_length : length (get_or groups g []) ≡ length row = ap length is_row in
          let most : weight * length row ≤ 2 ^ 40 * length row =
          mul-le weight (length row) (2 ^ 40) (length row) within (omega arith) in
          omega (arith, are.total);
    }
