-- A number put on the loads of some wires, or taken off them, one wire after another.
use Rattle.std.proofs.Common.{◌≡◌, ◌≢◌, ℕ, ◌+◌, ◌<◌, ◌≤◌, Bool, cond, List, length, get_or, set, take, refl, sym, ap, ◌∙◌, subst, ⊎_elim, arith, length-set, get_or-set_same, get_or-set_other}
use Rattle.std.specs.Prelude.{AllPairs, slice_index, ◌==◌, ◌||◌}
use Rattle.std.specs.List.{list_any}
use Rattle.std.specs.List.Sorted.{IsStrictlyIncreasing}
use Rattle.std.proofs.Math.Bool.{or-true, or-false}
use Rattle.std.proofs.lemmas.Bool.{cases_eq, eq-eqb, ne_eqb}
use Rattle.std.proofs.lemmas.List.{get_or-take, length-take-le, get_or_default}
use Rattle.std.proofs.lemmas.List.Kept.{AllPairs-from_increasing}
use Rattle.std.proofs.lemmas.List.Folds.{list_any_more, list_any_none, list_any-from_Any}
use Rattle.tdm_problem.specs.Loads.{load_by}
use Rattle.ripup_reroute.specs.Working.{IsAdded}

-- the next of some distinct wires is not among those before it
pub load_by-next : (number : ℕ) (wires : List ℕ) (i : ℕ) → AllPairs (λ d e. d ≢ e) wires → i < length wires
    → load_by number (take i wires) (get_or wires i 0) ≡ 0
load_by-next number wires i distinct there =
    ap (λ (b : Bool). cond b number 0)
    (list_any_none (λ d. d == get_or wires i 0) (take i wires)
    (λ k d below.
    let before : k < i = omega (arith, length-take-le i wires (omega arith)) in
    ne_eqb (get_or (take i wires) k d) (get_or wires i 0)
    (λ same. distinct k i 0 before there (get_or_default wires k 0 d (omega arith)
    ∙ sym (get_or-take i wires k d before) ∙ same))))

-- one more wire adds the number on itself
load_by-more : (number : ℕ) (wires : List ℕ) (i e : ℕ) → AllPairs (λ d e. d ≢ e) wires → i < length wires
    → load_by number (take (i + 1) wires) e ≡ load_by number (take i wires) e
    + cond (get_or wires i 0 == e) number 0
load_by-more number wires i e distinct there =
    let x : ℕ = get_or wires i 0 in
    let more : list_any (λ d. d == e) (take (i + 1) wires)
    ≡ (list_any (λ d. d == e) (take i wires) || (x == e)) =
    list_any_more (λ d. d == e) wires i 0 there in
    ⊎_elim
    (λ (same : x ≡ e).
    let none : load_by number (take i wires) e ≡ 0 =
    subst (λ (d : ℕ). load_by number (take i wires) d ≡ 0) same
    (load_by-next number wires i distinct there) in
    let all : load_by number (take (i + 1) wires) e ≡ number =
    ap (λ (b : Bool). cond b number 0) (more ∙ ap (λ (b : Bool). list_any (λ d. d == e) (take i wires) || b)
    (eq-eqb x e same) ∙ or-true (list_any (λ d. d == e) (take i wires))) in
    omega (arith, none, all, ap (λ (b : Bool). cond b number 0) (eq-eqb x e same)))
    (λ (other : x ≢ e).
    let as_before : load_by number (take (i + 1) wires) e ≡ load_by number (take i wires) e =
    ap (λ (b : Bool). cond b number 0) (more ∙ ap (λ (b : Bool). list_any (λ d. d == e) (take i wires) || b)
    (ne_eqb x e other) ∙ or-false (list_any (λ d. d == e) (take i wires))) in
    omega (arith, as_before, ap (λ (b : Bool). cond b number 0) (ne_eqb x e other)))
    (cases_eq x e)

-- each of the wires has the number
pub load_by-there : (number : ℕ) (wires : List ℕ) (i : ℕ) → i < length wires
    → load_by number wires (get_or wires i 0) ≡ number
load_by-there number wires i there =
    ap (λ (b : Bool). cond b number 0)
    (list_any-from_Any (λ d. d == get_or wires i 0) wires (
      i,
      get_or wires i 0,
      there,
      get_or_default wires i (get_or wires i 0) 0 there,
      eq-eqb (get_or wires i 0) (get_or wires i 0) refl,
    ))

-- a place is written over, and no other changes
written : (xs : List ℕ) (x v e : ℕ) → x < length xs → (x ≡ e → slice_index (set xs x v) e ≡ v)
    × (x ≢ e → slice_index (set xs x v) e ≡ slice_index xs e)
written xs x v e there = (
  λ same. subst (λ (d : ℕ). slice_index (set xs x v) d ≡ v) same (get_or-set_same xs x v 0 there),
  λ other. get_or-set_other xs x e v 0 (λ same. other (sym same)),
)

pub IsAdded-none : (number : ℕ) (wires xs : List ℕ) → IsAdded number (take 0 wires) xs xs
IsAdded-none number wires xs = record { count = refl; each = λ e. omega arith }

module _ (number : ℕ) (wires : List ℕ) (i v : ℕ) (distinct : AllPairs (λ d e. d ≢ e) wires) (there : i
    < length wires) where
  -- the number is put on one more wire
  pub IsAdded-more : (old now : List ℕ) → get_or wires i 0 < length now
      → v ≡ slice_index now (get_or wires i 0) + number → IsAdded number (take i wires) old now
      → IsAdded number (take (i + 1) wires) old (set now (get_or wires i 0) v)
  IsAdded-more old now below is so_far = record {
    count = length-set now (get_or wires i 0) v ∙ so_far.count;
    each = λ e. (
        let w = written now (get_or wires i 0) v e below in
        ⊎_elim
        (λ (same : get_or wires i 0 ≡ e).
        omega (
          arith,
          w.0 same,
          is,
          ap (slice_index now) same,
          so_far.each e,
          load_by-more number wires i e distinct there,
          ap (λ (b : Bool). cond b number 0) (eq-eqb (get_or wires i 0) e same),
        ))
        (λ (other : get_or wires i 0 ≢ e).
        omega (
          arith,
          w.1 other,
          so_far.each e,
          load_by-more number wires i e distinct there,
          ap (λ (b : Bool). cond b number 0) (ne_eqb (get_or wires i 0) e other),
        ))
        (cases_eq (get_or wires i 0) e));
  }

  -- the number is taken off one more wire
  pub IsAdded-less : (old now : List ℕ) → get_or wires i 0 < length now
      → v + number ≡ slice_index now (get_or wires i 0) → IsAdded number (take i wires) now old
      → IsAdded number (take (i + 1) wires) (set now (get_or wires i 0) v) old
  IsAdded-less old now below is so_far = record {
    count = so_far.count ∙ sym (length-set now (get_or wires i 0) v);
    each = λ e. (
        let w = written now (get_or wires i 0) v e below in
        ⊎_elim
        (λ (same : get_or wires i 0 ≡ e).
        omega (
          arith,
          w.0 same,
          is,
          ap (slice_index now) same,
          so_far.each e,
          load_by-more number wires i e distinct there,
          ap (λ (b : Bool). cond b number 0) (eq-eqb (get_or wires i 0) e same),
        ))
        (λ (other : get_or wires i 0 ≢ e).
        omega (
          arith,
          w.1 other,
          so_far.each e,
          load_by-more number wires i e distinct there,
          ap (λ (b : Bool). cond b number 0) (ne_eqb (get_or wires i 0) e other),
        ))
        (cases_eq (get_or wires i 0) e));
  }

-- the next wire still has the number that is to be taken off
pub taken-enough : (number : ℕ) (wires : List ℕ) (i : ℕ) (old now : List ℕ) → AllPairs (λ d e. d ≢ e) wires
    → i < length wires → ((e : ℕ) → load_by number wires e ≤ slice_index old e)
    → IsAdded number (take i wires) now old → number ≤ slice_index now (get_or wires i 0)
taken-enough number wires i old now distinct there loaded so_far =
    let x : ℕ = get_or wires i 0 in
    omega (
      arith,
      load_by-next number wires i distinct there,
      load_by-there number wires i there,
      so_far.each x,
      loaded x,
    )

-- numbers that rise are distinct
pub rising-distinct : (wires : List ℕ) → IsStrictlyIncreasing wires → AllPairs (λ d e. d ≢ e) wires
rising-distinct wires rising i j d before inside same =
    omega (arith, AllPairs-from_increasing wires rising i j d before inside, same)
