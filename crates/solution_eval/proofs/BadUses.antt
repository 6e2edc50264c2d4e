-- ratios that are not positive and even
use Rattle.std.proofs.Common.{◌≡◌, ◌≢◌, ℕ, ◌*◌, ◌/◌, ◌%◌, ◌<◌, ◌≤◌, List, length, get_or, take, ap, ◌∙◌, subst, inl, inr, arith}
use Rattle.std.specs.Prelude.{All, IsTrue, ◌↔◌, ◌==◌}
use Rattle.std.specs.List.Sorted.{IsStrictlyIncreasing}
use Rattle.std.proofs.lemmas.Bool.{eqb-true, eq-eqb, cases_lt}
use Rattle.std.proofs.lemmas.List.{length-map, length-take, get_or-map, get_or-take, get_or_default, take_all}
use Rattle.std.proofs.lemmas.List.Elements.{All-map, Contains-get_or}
use Rattle.std.proofs.lemmas.List.Kept.{AllPairs-from_increasing}
use Rattle.tdm_problem.specs.declared.solution.WireUse.{WireUse}
use Rattle.tdm_problem.specs.Routing.{wires_of, ratios_of}
use Rattle.tdm_problem.specs.Legal.{IsEvenRatio}
use Rattle.solution_eval.specs.Violations.{IsLowestBadUse}

pub even_test : (ratio : ℕ) → ratio ≢ 0 → (IsTrue (ratio % 2 == 0) ↔ IsEvenRatio ratio)
even_test ratio some = (
  λ passed. let even : ratio % 2 ≡ 0 = eqb-true (ratio % 2) 0 passed in (ratio / 2, omega arith, omega arith),
  λ even. eq-eqb (ratio % 2) 0 (let is : ratio ≡ 2 * even.0 = even.2 in omega arith),
)

-- the wires of two uses rise with their places
wires_rise : (uses : List WireUse) (i k : ℕ) (c d : WireUse) → IsStrictlyIncreasing (wires_of uses) → i < k
    → k < length uses → (get_or uses i c).wire < (get_or uses k d).wire
wires_rise uses i k c d rising before inside =
    let in_wires : k < length (wires_of uses) = omega (arith, length-map uses (λ (u : WireUse). u.wire)) in
    let rise : get_or (wires_of uses) i 0 < get_or (wires_of uses) k 0 =
    AllPairs-from_increasing (wires_of uses) rising i k 0 before in_wires in
    let at_i : get_or (wires_of uses) i 0 ≡ (get_or uses i c).wire =
    get_or-map (λ (u : WireUse). u.wire) uses i c 0 (omega arith) in
    let at_k : get_or (wires_of uses) k 0 ≡ (get_or uses k d).wire =
    get_or-map (λ (u : WireUse). u.wire) uses k d 0 inside in
    omega arith

-- where all before it have even ratios, a bad use is the lowest
pub lowest_here : (uses : List WireUse) (i : ℕ) (d : WireUse) → IsStrictlyIncreasing (wires_of uses)
    → i < length uses → All (λ (u : WireUse). IsEvenRatio u.ratio) (take i uses)
    → ¬ IsEvenRatio (get_or uses i d).ratio → IsLowestBadUse uses (get_or uses i d)
lowest_here uses i d rising inside before bad = record {
  there = Contains-get_or uses i d inside;
  bad = bad;
  lower = λ k x in_uses below. elim (cases_lt k i) [
    | inl earlier ↦ subst (λ (u : WireUse). IsEvenRatio u.ratio) (get_or-take i uses k x earlier)
        (before k x (omega (arith, length-take i uses)))
    | inr later ↦ elim (cases_lt i k) [
      | inl after ↦ let up : (get_or uses i d).wire < (get_or uses k x).wire =
          wires_rise uses i k d x rising after in_uses in absurd (omega arith)
      | inr same ↦
          let at : k ≡ i = omega arith in
          let equal : (get_or uses k x).wire ≡ (get_or uses i d).wire =
          ap (λ (j : ℕ). (get_or uses j x).wire) at
          ∙ ap (λ (u : WireUse). u.wire) (get_or_default uses i x d inside) in
          absurd (omega arith)
    ]
  ];
}

-- where all uses have even ratios, all ratios are even
pub all_even : (uses : List WireUse) (i : ℕ) → length uses ≤ i
    → All (λ (u : WireUse). IsEvenRatio u.ratio) (take i uses) → All IsEvenRatio (ratios_of uses)
all_even uses i done all =
    All-map IsEvenRatio (λ (u : WireUse). u.ratio) uses
    (subst (λ us. All (λ (u : WireUse). IsEvenRatio u.ratio) us) (take_all i uses done) all)
