-- Turns on the board with two wires and two nets.
use Rattle.std.proofs.Common.{◌≡◌, ℕ, ◌<◌, ◌≤◌, List, [], ◌∷◌, refl, sym, subst, inl, inr, ⊎_elim, arith}
use Rattle.std.specs.Prelude.{Contains, slice_index_or}
use Rattle.std.proofs.lemmas.List.Sums.{sum_by-cons}
use Rattle.tdm_problem.specs.Distance.{IsDistance, length_of}
use Rattle.tdm_problem.specs.Loads.{marginal_length, AreWiresOf}
use Rattle.tdm_problem.specs.Samples.{wire}
use Rattle.tdm_problem.specs.Walk.{Links, IsWalk, AnyWire}
use Rattle.tdm_problem.proofs.Walks.{IsMinimalTree-one, either}
use Rattle.ripup_reroute.specs.Samples.{crossing, crowded, spread}
use Rattle.ripup_reroute.specs.Rerouting.{IsSettledFor}
use Rattle.ripup_reroute.specs.Turns.{IsShortFor, IsTurn}
use Rattle.ripup_reroute.specs.Working.{IsWithinNet}
use Rattle.ripup_reroute.proofs.TurnLaws.{settled-within}

abbrev ones : List ℕ
ones = 1 ∷ 1 ∷ []

second : Links crossing 1 0 1
second = record { wire = wire 0 1; is = refl; ends = inl (refl, refl) }

-- from one FPGA to the other no walk is shorter than 1
walk-long : (trees : List (List ℕ)) (es : List ℕ) → IsWalk crossing (AnyWire crossing) 0 es 1
    → 1 ≤ length_of (marginal_length trees ones 1) es
walk-long trees [] walk = absurd (omega (arith, walk))
walk-long trees (e ∷ es) walk = omega (arith, sum_by-cons (marginal_length trees ones 1) e es)

-- beside a free wire, the tree on the crowded one is too long
pub crowded-long : ¬ IsShortFor crossing ones 1 crowded
crowded-long short =
    let to_both : (t : ℕ) → Contains (0 ∷ 1 ∷ []) t
    → IsDistance crossing (marginal_length crowded ones 1) 0 t t =
    λ t among. ⊎_elim
    (λ (first : 0 ≡ t). let P : ℕ → Type 0 =
    λ x. IsDistance crossing (marginal_length crowded ones 1) 0 x x in
    subst P first (record {
      walk = let none : List ℕ = [] in (none, refl, refl);
      least = λ es walk. omega arith;
    }))
    (λ (other : 1 ≡ t). let P : ℕ → Type 0 =
    λ x. IsDistance crossing (marginal_length crowded ones 1) 0 x x in
    subst P other (record {
      walk = (1 ∷ [], (omega arith, (1, second, refl)), refl);
      least = walk-long crowded;
    }))
    (either 0 1 t among) in
    let no_longer : 3 ≤ 1 = short (λ t. t) to_both in
    omega (arith, no_longer)

own-wire : AreWiresOf crossing (1 ∷ [])
own-wire = record {
  there = λ k d below. let first : k ≡ 0 = omega (arith, below) in let P : ℕ → Type 0 =
      λ i. slice_index_or (1 ∷ []) i d < 2 in subst P (sym first) (omega arith);
  distinct = λ i j d before inside same. omega (arith, before, inside);
}

-- on wires of their own both nets are settled
pub spread-settled : IsSettledFor crossing ones 1 spread
spread-settled =
    let within : IsWithinNet crossing spread ones 1 1 =
    λ far reached. (
    let way = reached 1 (1, omega arith, refl) in
    omega (arith, walk-long spread way.0 way.1, way.2, sum_by-cons far 0 (1 ∷ []), sum_by-cons far 1 [])) in
    settled-within crossing spread ones 1 (omega arith) own-wire within

pub turn-spreads : IsTurn crossing ones 1 crowded spread
turn-spreads = record {
  others = refl;
  own = inr (
    IsMinimalTree-one crossing 1 0 1 second (λ same. omega (arith, same)),
    (λ k below. absurd (omega (arith, below))),
    let falls : 2 < 4 = omega arith in falls,
  );
  short = spread-settled.short;
}

pub turn-rests : IsTurn crossing ones 1 spread spread
turn-rests = record { others = refl; own = inl refl; short = spread-settled.short }
