-- What the loop over the terms of one turn keeps.
use Rattle.std.proofs.Common.{◌≡◌, ℕ, ◌+◌, ◌-◌, ◌*◌, ◌^◌, ◌<◌, ◌≤◌, List, [], ◌∷◌, ◌++◌, All, length, map, take, drop, get_or, arith, sym, ap, ◌∙◌, length-take-le, get_or-drop, set}
use Rattle.std.proofs.Math.Nat.{div-le_of_le-mul}
use Rattle.std.proofs.lemmas.Nat.{mul-le}
use Rattle.std.proofs.lemmas.List.{get_or-append_right, length-map}
use Rattle.std.proofs.lemmas.List.Edits.{map_over_more}
use Rattle.std.proofs.lemmas.List.Sums.{sum_by-cons, sum_by_more}
use Rattle.std.proofs.lemmas.List.Elements.{All-tail}
use Rattle.recip_sum.specs.declared.long_division.Term.{Term}
use Rattle.recip_sum.specs.LongDivision.{after_digit, digit_of, digits_sum, item_count, IsTerm}

-- the first `done` terms are one digit on, and the others as they were
pub record HaveTakenDigits (before now : List Term) (done sum steps_before steps : ℕ) : Type 0 where
  pub terms : now ≡ map after_digit (take done before) ++ drop done before
  pub digits : sum ≡ digits_sum (take done before)
  pub ticks : steps ≡ steps_before + done

-- a loop that writes f x over each element x of xs has not changed the element at i when it comes there
pub element_not_reached : {X : Type 0} (f : X → X) (xs ys : List X) (i : ℕ) (d : X) → i < length xs
    → ys ≡ map f (take i xs) ++ drop i xs → get_or ys i d ≡ get_or xs i d
element_not_reached f xs ys i d within is =
    let long : length (map f (take i xs)) ≡ i = length-map (take i xs) f
    ∙ length-take-le i xs (omega arith) in
    ap (λ l. get_or l i d) is ∙ get_or-append_right (map f (take i xs)) (drop i xs) i i d long (omega arith)
    ∙ get_or-drop i xs (i - i) d ∙ ap (λ k. get_or xs k d) (omega arith)

pub digit_of-le : (t : Term) → IsTerm t → digit_of t ≤ 2 ^ 32
digit_of-le t h = let p = mul-le t.remainder (2 ^ 32) t.ratio (2 ^ 32) h.rest (omega arith) in
    div-le_of_le-mul t.ratio p

pub digits_sum-le : (ts : List Term) → All IsTerm ts → digits_sum ts ≤ item_count ts * 2 ^ 32
digits_sum-le [] h = omega arith
digits_sum-le (t ∷ ts) h =
    let here : digit_of t ≤ 2 ^ 32 = digit_of-le t (h 0 t (omega arith)) in
    let items = mul-le t.count (digit_of t) t.count (2 ^ 32) (omega arith) here in
    let rest = digits_sum-le ts (All-tail IsTerm t ts h) in
    omega (
      arith,
      sum_by-cons (λ (t : Term). t.count * digit_of t) t ts,
      sum_by-cons (λ (t : Term). t.count) t ts,
    )

-- one more term: t is the term at i, which d is the digit of and which `after` takes its place
pub one_more_digit : (before now : List Term) (i sum steps_before steps : ℕ) (t : Term) (d : ℕ) (after : Term)
    → i < length before → HaveTakenDigits before now i sum steps_before steps → t ≡ get_or now i t
    → d ≡ digit_of t → after ≡ after_digit t
    → HaveTakenDigits before (set now i after) (i + 1) (sum + t.count * d) steps_before (steps + 1)
one_more_digit before now i sum steps_before steps t d after within h read digit next =
    let same : t ≡ get_or before i t = read ∙ element_not_reached after_digit before now i t within h.terms in
    record {
      terms = ap (λ x. set now i x) next ∙ map_over_more after_digit before now i t within h.terms read;
      digits =
          let sums = sum_by_more (λ (t : Term). t.count * digit_of t) before i t within in
          let term : t.count * digit_of t ≡ (get_or before i t).count * digit_of (get_or before i t) =
          ap (λ (t : Term). t.count * digit_of t) same in
          rw (h.digits, digit, term) (sym sums);
      ticks = let k = h.ticks in omega arith;
    }
