-- what the sweeps over the nets keep
use Rattle.std.proofs.Common.{◌≡◌, ◌≢◌, ℕ, ◌+◌, ◌*◌, ◌<◌, ◌≤◌, ◌^◌, Bool, true, false, cond, List, [], ◌∷◌, ◌++◌, length, map, get_or, set, take, ap, sym, ◌∙◌, inl, inr, arith}
use Rattle.std.specs.Prelude.{◌==◌, All, AllPairs, max, count_by, sum_by, if◌then◌else◌}
use Rattle.std.specs.Int.{div_ceil}
use Rattle.std.specs.List.{fold}
use Rattle.std.proofs.lemmas.Bool.{eq-eqb, ne_eqb, cases_eq, cond-true, cond-false}
use Rattle.std.proofs.lemmas.Grind.{get_or-set_at}
use Rattle.std.proofs.lemmas.List.{get_or-set_other, length-take, length-map, get_or-map, get_or_default}
use Rattle.std.proofs.lemmas.List.Elements.{All-take}
use Rattle.std.proofs.lemmas.List.Sums.{sum_by-append, sum_by-cons, sum_by-le, sum_by_more}
use Rattle.tdm_problem.specs.Limits.{most_nets}
use Rattle.tdm_problem.specs.Trees.{HasRisingRows}
use Rattle.tdm_problem.specs.Value.{largest}
use Rattle.ratio_shares.proofs.Claims.{least_claim-le}
use Rattle.even_legalise.specs.Shared.{numbers_on}
use Rattle.even_legalise.specs.Claims.{HasLargest, HasLeast, HasClaims}
use Rattle.even_legalise.proofs.Numbers.{number_on, numbers_on_more, numbers_on-all, length-numbers_on, largest_append, raised_by, added_by}
use Rattle.even_legalise.proofs.UniformLaws.{count_before, nets_on-le-length}
use Rattle.even_legalise.proofs.UniformIsLegal.{distinct_rows}

-- the largest numbers with one net more
pub largest_step : (trees : List (List ℕ)) (numbers : List ℕ) (n wires : ℕ) (most new row : List ℕ)
    (number : ℕ) → n < length trees → n < length numbers → get_or trees n [] ≡ row
    → get_or numbers n 0 ≡ number → HasLargest (take n trees) (take n numbers) wires most → length new ≡ wires
    → ((e : ℕ) → e < length most → get_or new e 0 ≡ fold (λ a d. if d == e then max a number else a)
    (get_or most e 0) row) → HasLargest (take (n + 1) trees) (take (n + 1) numbers) wires new
largest_step trees numbers n wires most new row number inside paired is_row is_number before whole raised =
    record {
      whole = whole;
      each = λ e there.
          let old : List ℕ = numbers_on (take n trees) (take n numbers) e in
          let more : numbers_on (take (n + 1) trees) (take (n + 1) numbers) e
          ≡ numbers_on (take n trees) (take n numbers) e ++ number_on row number e =
          numbers_on_more trees numbers n e inside paired
          ∙ (ap (λ r. numbers_on (take n trees) (take n numbers) e ++ number_on r (get_or numbers n 0) e)
          is_row ∙ ap (λ (x : ℕ). numbers_on (take n trees) (take n numbers) e ++ number_on row x e)
          is_number) in
          let step : get_or new e 0 ≡ max (get_or most e 0) (largest (number_on row number e)) =
          raised e (omega (arith, before.whole)) ∙ raised_by row number e (get_or most e 0) in
          omega (
            arith,
            step,
            before.each e there,
            largest_append (numbers_on (take n trees) (take n numbers) e)
                (number_on row number e),
            ap largest more,
          );
    }

-- the least claims from the largest numbers
pub least_from_largest : (trees : List (List ℕ)) (numbers : List ℕ) (wires : ℕ) (most least : List ℕ)
    → HasLargest trees numbers wires most → least ≡ map (λ number. max (div_ceil number 1024) 1) most
    → HasLeast trees numbers wires least
least_from_largest trees numbers wires most least has is = record {
  whole = ap length is ∙ (length-map most (λ number. max (div_ceil number 1024) 1) ∙ has.whole);
  each = λ e there.
      ap (λ xs. get_or xs e 0) is
      ∙ (get_or-map (λ number. max (div_ceil number 1024) 1) most e 0 0 (omega (arith, has.whole))
      ∙ ap (λ (number : ℕ). max (div_ceil number 1024) 1) (has.each e there));
}

-- the claims of some nets, where these are the least claims on each wire
pub record HasClaimsBy (trees : List (List ℕ)) (numbers least claims : List ℕ) : Type 0 where
  pub whole : length claims ≡ length least
  pub each : (e : ℕ) → e < length least → get_or claims e 0 ≡ sum_by (λ number. max number (get_or least e 0))
      (numbers_on trees numbers e)

pub claims_step : (trees : List (List ℕ)) (numbers least : List ℕ) (n : ℕ) (claims new row : List ℕ)
    (number : ℕ) → n < length trees → n < length numbers → get_or trees n [] ≡ row
    → get_or numbers n 0 ≡ number → HasClaimsBy (take n trees) (take n numbers) least claims
    → length new ≡ length least
    → ((e : ℕ) → e < length claims
    → get_or new e 0 ≡ get_or claims e 0
    + sum_by (λ d. if d == e then max number (get_or least e 0) else 0) row)
    → HasClaimsBy (take (n + 1) trees) (take (n + 1) numbers) least new
claims_step trees numbers least n claims new row number inside paired is_row is_number before whole added =
    record {
      whole = whole;
      each = λ e there.
          let more : numbers_on (take (n + 1) trees) (take (n + 1) numbers) e
          ≡ numbers_on (take n trees) (take n numbers) e ++ number_on row number e =
          numbers_on_more trees numbers n e inside paired
          ∙ (ap (λ r. numbers_on (take n trees) (take n numbers) e ++ number_on r (get_or numbers n 0) e)
          is_row ∙ ap (λ (x : ℕ). numbers_on (take n trees) (take n numbers) e ++ number_on row x e)
          is_number) in
          omega (
            arith,
            added e (omega (arith, before.whole)),
            before.each e there,
            added_by (λ x. max x (get_or least e 0)) row number e,
            sum_by-append (λ x. max x (get_or least e 0)) (numbers_on (take n trees) (take n numbers) e)
                (number_on row number e),
            ap (sum_by (λ x. max x (get_or least e 0))) more,
          );
    }

-- one more wire of a net, to which its claim is added
pub add_step : (claims wires least : List ℕ) (i number w v e init : ℕ) → i < length wires
    → get_or wires i 0 ≡ w → w < length claims → v ≡ get_or claims w 0 + max number (get_or least w 0)
    → get_or claims e 0 ≡ init + sum_by (λ d. if d == e then max number (get_or least e 0) else 0)
    (take i wires) → get_or (set claims w v) e 0
    ≡ init + sum_by (λ d. if d == e then max number (get_or least e 0) else 0) (take (i + 1) wires)
add_step claims wires least i number w v e init inside is there added before =
    let more : sum_by (λ d. if d == e then max number (get_or least e 0) else 0) (take (i + 1) wires)
    ≡ sum_by (λ d. if d == e then max number (get_or least e 0) else 0) (take i wires)
    + cond (get_or wires i 0 == e) (max number (get_or least e 0)) 0 =
    sum_by_more (λ d. if d == e then max number (get_or least e 0) else 0) wires i 0 inside in
    elim (cases_eq w e) [
      | inl same ↦
          let at : get_or (set claims w v) e 0 ≡ v = get_or-set_at claims w e v 0 (sym same) there in
          let here : cond {A = ℕ} (get_or wires i 0 == e) (max number (get_or least e 0)) 0
          ≡ max number (get_or least e 0) =
          cond-true (get_or wires i 0 == e) (max number (get_or least e 0)) 0
          (eq-eqb (get_or wires i 0) e (is ∙ same)) in
          let old : get_or claims w 0 ≡ get_or claims e 0 = ap (λ (x : ℕ). get_or claims x 0) same in
          let one : max number (get_or least w 0) ≡ max number (get_or least e 0) =
          ap (λ (x : ℕ). max number (get_or least x 0)) same in
          omega (arith, at, here, old, one, more, added, before)
      | inr other ↦
          let at : get_or (set claims w v) e 0 ≡ get_or claims e 0 =
          get_or-set_other claims w e v 0 (λ same. other (sym same)) in
          let none : cond {A = ℕ} (get_or wires i 0 == e) (max number (get_or least e 0)) 0 ≡ 0 =
          cond-false (get_or wires i 0 == e) (max number (get_or least e 0)) 0
          (ne_eqb (get_or wires i 0) e (λ same. other (sym is ∙ same))) in
          omega (arith, at, none, more, before)
    ]

-- a net's claims on other wires add nothing to one wire
sum_counted : (p : ℕ → Bool) (m : ℕ) (xs : List ℕ) → sum_by (λ x. cond {A = ℕ} (p x) m 0) xs
    ≡ count_by p xs * m
sum_counted p m [] = omega arith
sum_counted p m (x ∷ xs) =
    let one : cond {A = ℕ} (p x) m 0 ≡ cond {A = ℕ} (p x) 1 0 * m =
    elim (p x) as (λ b. cond {A = ℕ} b m 0 ≡ cond {A = ℕ} b 1 0 * m)
    [ true ↦ omega arith | false ↦ omega arith ] in
    let count : count_by p (x ∷ xs) * m ≡ (cond {A = ℕ} (p x) 1 0 + count_by p xs) * m =
    ap (λ (c : ℕ). c * m) (sum_by-cons (λ y. cond {A = ℕ} (p y) 1 0) x xs) in
    omega (arith, one, count, sum_by-cons (λ y. cond {A = ℕ} (p y) m 0) x xs, sum_counted p m xs)

pub added_before : (wires : List ℕ) (i m : ℕ) → i < length wires → AllPairs (λ d e. d ≢ e) wires
    → sum_by (λ d. if d == get_or wires i 0 then m else 0) (take i wires) ≡ 0
added_before wires i m inside apart =
    let none : count_by (λ d. d == get_or wires i 0) (take i wires) * m ≡ 0 * m =
    ap (λ (c : ℕ). c * m) (count_before wires i inside apart) in
    omega (arith, none, sum_counted (λ d. d == get_or wires i 0) m (take i wires))

-- no more numbers stand on a wire than there are nets
pub numbers_on-le : (trees : List (List ℕ)) (numbers : List ℕ) (e : ℕ)
    → All (λ row. AllPairs (λ x y. x ≢ y) row) trees → length numbers ≡ length trees
    → length (numbers_on trees numbers e) ≤ length trees
numbers_on-le trees numbers e apart paired = omega (
  arith,
  nets_on-le-length e trees apart,
  length-numbers_on trees numbers e paired,
)

numbers_on-few : (trees : List (List ℕ)) (numbers : List ℕ) (n e : ℕ) → HasRisingRows trees
    → length numbers ≡ length trees → length (numbers_on (take n trees) (take n numbers) e) ≤ most_nets
numbers_on-few trees numbers n e rising paired =
    omega (
      arith,
      numbers_on-le (take n trees) (take n numbers) e (All-take (λ row. AllPairs (λ x y. x ≢ y) row) n trees
          (distinct_rows trees rising)) (omega (arith, length-take n trees, length-take n numbers)),
      length-take n trees,
      rising.net_limit,
    )

-- the claims on a wire are at most 2^50
pub claims_small : (trees : List (List ℕ)) (numbers least : List ℕ) (n : ℕ) (claims : List ℕ)
    → HasRisingRows trees → length numbers ≡ length trees → All (λ number. number ≤ 2 ^ 30) numbers
    → All (λ one. one ≤ 2 ^ 30) least → HasClaimsBy (take n trees) (take n numbers) least claims
    → All (λ all. all ≤ 2 ^ 60) claims
claims_small trees numbers least n claims rising paired small least_small before = λ e d inside.
    let there : e < length least = omega (arith, before.whole) in
    let on : List ℕ = numbers_on (take n trees) (take n numbers) e in
    let each : All (λ number. max number (get_or least e 0) ≤ 2 ^ 30)
    (numbers_on (take n trees) (take n numbers) e) =
    numbers_on-all (λ number. max number (get_or least e 0) ≤ 2 ^ 30) (take n trees) (take n numbers) e
    (All-take (λ number. max number (get_or least e 0) ≤ 2 ^ 30) n numbers (λ k y in_numbers. omega (
      arith,
      small k y in_numbers,
      least_small e 0 there,
    ))) in
    let few : length (numbers_on (take n trees) (take n numbers) e) ≤ most_nets =
    numbers_on-few trees numbers n e rising paired in
    let bound : sum_by (λ number. max number (get_or least e 0))
    (numbers_on (take n trees) (take n numbers) e)
    ≤ length (numbers_on (take n trees) (take n numbers) e) * 2 ^ 30 =
    sum_by-le (λ number. max number (get_or least e 0)) (2 ^ 30)
    (numbers_on (take n trees) (take n numbers) e) each in
    let is : get_or claims e d ≡ sum_by (λ number. max number (get_or least e 0))
    (numbers_on (take n trees) (take n numbers) e) = get_or_default claims e d 0 inside
    ∙ before.each e there in
    omega (arith, is, bound, few)

-- the claims of all nets
pub claims_whole : (trees : List (List ℕ)) (numbers least claims : List ℕ)
    → HasLeast trees numbers (length least) least → HasClaimsBy trees numbers least claims
    → HasClaims trees numbers (length least) claims
claims_whole trees numbers least claims is_least by = record {
  whole = by.whole;
  each = λ e there.
      by.each e there ∙ ap (λ (m : ℕ). sum_by (λ number. max number m) (numbers_on trees numbers e))
      (is_least.each e there);
}

-- the least claims are within the range of the numbers
pub least_is_small : (trees : List (List ℕ)) (numbers least : List ℕ)
    → All (λ number. number ≤ 2 ^ 30) numbers → HasLeast trees numbers (length least) least
    → All (λ one. one ≤ 2 ^ 30) least
least_is_small trees numbers least small is_least = λ e d inside.
    omega (
      arith,
      get_or_default least e d 0 inside,
      is_least.each e inside,
      least_claim-le (numbers_on trees numbers e)
          (numbers_on-all (λ x. x ≤ 2 ^ 30) trees numbers e small),
    )
