-- Nets are marked, sorted and grown.
use Rattle.std.proofs.Common.{◌≡◌, ◌≢◌, ℕ, ◌+◌, ◌<◌, ◌≤◌, ◌⊎◌, List, [], ◌∷◌, ◌++◌, Some, length, replicate, set, get_or-set_same, get_or-set_other, sym, ap, ◌∙◌, subst, inl, inr, ⊎_elim, arith}
use Rattle.std.specs.Prelude.{slice_get, slice_index, AllPairs, IsPermutation}
use Rattle.std.specs.List.Sorted.{IsSorted}
use Rattle.std.specs.Ordering.{nat_cmp}
use Rattle.std.proofs.lemmas.Bool.{cases_eq, cases_lt}
use Rattle.std.proofs.lemmas.List.{length-set, length-replicate, get_or-replicate, get_or_past}
use Rattle.std.proofs.lemmas.List.Elements.{All-push, Contains-push, Contains-append_left}
use Rattle.std.proofs.lemmas.List.Sorted.{All-permutation, Contains-permutation, IsPermutation-sym}
use Rattle.std.proofs.lemmas.Option.{slice_get-get_or, get_or_from_slice_get}
use Rattle.tdm_problem.specs.Board.{Board}
use Rattle.tdm_problem.specs.Legal.{terminals_of}
use Rattle.shortest_forest.proofs.ClimbLaws.{sorted_rising}
use Rattle.bound_cert.specs.Growth.{AreRising, IsGrowth, IsNetGrowth}
use Rattle.cert_checker.specs.declared.net_growths.SetMark.{SetMark}
use Rattle.cert_checker.specs.NetGrowths.{AreGrowths, AreWeighed, HasNet}
use Rattle.cert_checker.proofs.SameGrowth.{growth-same}

-- the first n nets that have a weight are marked
pub record AreMarkedNets (weights : List ℕ) (n : ℕ) (marks : List SetMark) : Type 0 where
  pub weighed : AreWeighed weights marks
  pub whole : (k : ℕ) → k < n → 0 < slice_index weights k → HasNet marks k

module _ (weights : List ℕ) where
  pub AreMarkedNets-none : AreMarkedNets weights 0 []
  AreMarkedNets-none = record {
    weighed = λ k d inside. absurd (omega (arith, inside));
    whole = λ k less. absurd (omega (arith, less));
  }

  pub AreMarkedNets-pass : (n : ℕ) (marks : List SetMark) → slice_index weights n ≡ 0
      → AreMarkedNets weights n marks → AreMarkedNets weights (n + 1) marks
  AreMarkedNets-pass n marks low are = record {
    weighed = are.weighed;
    whole = λ k less weighs. go k less weighs (cases_eq k n);
  }
    where
      go : (k : ℕ) → k < n + 1 → 0 < slice_index weights k → (k ≡ n) ⊎ (k ≡ n → ⊥) → HasNet marks k
      go k less weighs (inl even) =
          absurd (omega (arith, weighs, low, ap (λ (j : ℕ). slice_index weights j) even))
      go k less weighs (inr differ) = are.whole k (omega (arith, less, differ)) weighs

  pub AreMarkedNets-more : (n : ℕ) (mark : SetMark) (marks : List SetMark) → mark.net ≡ n → n < length weights
      → slice_index weights n ≢ 0 → AreMarkedNets weights n marks
      → AreMarkedNets weights (n + 1) (marks ++ mark ∷ [])
  AreMarkedNets-more n mark marks of below weighty are = record {
    weighed = All-push (λ (m : SetMark). (m.net < length weights) × (0 < slice_index weights m.net)) marks mark
        are.weighed (
          omega (arith, below, of),
          omega (arith, weighty, ap (λ (k : ℕ). slice_index weights k) of),
        );
    whole = λ k less weighs. go k less weighs (cases_eq k n);
  }
    where
      go : (k : ℕ) → k < n + 1 → 0 < slice_index weights k → (k ≡ n) ⊎ (k ≡ n → ⊥)
          → HasNet (marks ++ mark ∷ []) k
      go k less weighs (inl even) = (mark, Contains-push marks mark, of ∙ sym even)
      go k less weighs (inr differ) =
          let before = are.whole k (omega (arith, less, differ)) weighs in
          (before.0, Contains-append_left marks (mark ∷ []) before.0 before.1, before.2)

  pub weighed-sorted : (n : ℕ) (marks sorted : List SetMark) → IsPermutation marks sorted
      → AreMarkedNets weights n marks → AreWeighed weights sorted
  weighed-sorted n marks sorted moved are = All-permutation (λ (m : SetMark). (m.net < length weights)
      × (0 < slice_index weights m.net)) marks sorted moved are.weighed

  pub whole-sorted : (n : ℕ) (marks sorted : List SetMark) → IsPermutation marks sorted
      → AreMarkedNets weights n marks →
      (k : ℕ) → k < n → 0 < slice_index weights k → HasNet sorted k
  whole-sorted n marks sorted moved are k below weighs =
      let has = are.whole k below weighs in
      (has.0, Contains-permutation marks sorted has.0 moved has.1, has.2)

-- the nets of the first i marks are grown, and those without weight have the number 0
pub record AreGrown (board : Board) (wire_length : ℕ → ℕ) (weights : List ℕ) (marks : List SetMark) (i : ℕ)
    (growths : List ℕ) : Type 0 where
  pub whole : length growths ≡ length board.nets
  pub each : (j : ℕ) (m : SetMark) → j < i → slice_get marks j ≡ Some m
      → IsNetGrowth board wire_length m.net (slice_index growths m.net)
  pub none : (n : ℕ) → slice_index weights n ≡ 0 → slice_index growths n ≡ 0

module _ (board : Board) (wire_length : ℕ → ℕ) (weights : List ℕ) (marks : List SetMark) where
  pub AreGrown-none : (count : ℕ) → count ≡ length board.nets
      → AreGrown board wire_length weights marks 0 (replicate count 0)
  AreGrown-none count whole = record {
    whole = length-replicate count (let none : ℕ = 0 in none) ∙ whole;
    each = λ j m less is. absurd (omega (arith, less));
    none = λ n low. ⊎_elim (λ (below : n < count). get_or-replicate count n 0 0 below)
        (λ (past : count ≤ n). get_or_past (replicate count 0) n 0 (omega (
          arith,
          past,
          length-replicate count (let none : ℕ = 0 in none),
        ))) (cases_lt n count);
  }

  pub AreGrown-more : (i : ℕ) (growths : List ℕ) (mark : SetMark) (growth : ℕ) → mark.net < length board.nets
      → 0 < slice_index weights mark.net → slice_get marks i ≡ Some mark →
      IsNetGrowth board wire_length mark.net growth → AreGrown board wire_length weights marks i growths →
      AreGrown board wire_length weights marks (i + 1) (set growths mark.net growth)
  AreGrown-more i growths mark growth below weighs is grows are = record {
    whole = length-set growths mark.net growth ∙ are.whole;
    each = λ j m less at. go j m less at (cases_eq m.net mark.net);
    none = λ n low. get_or-set_other growths mark.net n growth 0 (λ even. omega (
      arith,
      low,
      weighs,
      ap (λ (k : ℕ). slice_index weights k) even,
    )) ∙ are.none n low;
  }
    where
      here : IsNetGrowth board wire_length mark.net (slice_index (set growths mark.net growth) mark.net)
      here = subst (λ (g : ℕ). IsNetGrowth board wire_length mark.net g)
          (sym (get_or-set_same growths mark.net growth 0 (omega (arith, below, are.whole)))) grows

      go : (j : ℕ) (m : SetMark) → j < i + 1 → slice_get marks j ≡ Some m → (m.net ≡ mark.net)
          ⊎ (m.net ≡ mark.net → ⊥)
          → IsNetGrowth board wire_length m.net (slice_index (set growths mark.net growth) m.net)
      go j m less at (inl even) =
          subst (λ (n : ℕ). IsNetGrowth board wire_length n (slice_index (set growths mark.net growth) n))
          (sym even) here
      go j m less at (inr differ) = by (cases_lt j i)
        where
          by : (j < i) ⊎ (i ≤ j)
              → IsNetGrowth board wire_length m.net (slice_index (set growths mark.net growth) m.net)
          by (inl before) = subst (λ (g : ℕ). IsNetGrowth board wire_length m.net g)
              (sym (get_or-set_other growths mark.net m.net growth 0 differ)) (are.each j m before at)
          by (inr last) =
              let even : j ≡ i = omega (arith, less, last) in
              absurd (differ (ap (λ (x : SetMark). x.net)
              (sym (get_or_from_slice_get marks i m m (ap (λ (k : ℕ). slice_get marks k) (sym even)
              ∙ at)) ∙ get_or_from_slice_get marks i mark m is)))

  pub AreGrowths-all : (i : ℕ) (growths : List ℕ) → length marks ≤ i
      → ((n : ℕ) → n < length board.nets → 0 < slice_index weights n → HasNet marks n) →
      AreGrown board wire_length weights marks i growths → AreGrowths board wire_length weights growths
  AreGrowths-all i growths past has are = record {
    whole = are.whole;
    each = λ n below weighs.
        let found = has n below weighs in
        subst (λ (k : ℕ). IsNetGrowth board wire_length k (slice_index growths k)) found.2
        (are.each found.1.0 found.0 (omega (arith, found.1.1, past))
        (slice_get-get_or marks found.1.0 found.0 found.1.1 ∙ ap (λ (m : SetMark). Some m) found.1.2));
    none = are.none;
  }

-- rising FPGAs that grow over the wires of a graph are how far the net of a board grows
pub net_growth-on_graph : (board graph : Board) (wire_length : ℕ → ℕ) (n : ℕ) (fpgas rising : List ℕ)
    (growth : ℕ) → graph.wires ≡ board.wires →
    fpgas ≡ terminals_of board n → AreRising fpgas rising → IsGrowth graph wire_length rising growth
    → IsNetGrowth board wire_length n growth
net_growth-on_graph board graph wire_length n fpgas rising growth wires own are grows = record {
  rising = rising;
  are = subst (λ (fs : List ℕ). AreRising fs rising) own are;
  grows = growth-same graph board wires wire_length rising growth grows;
}

-- different FPGAs that are sorted rise
pub rising-sorted : (fpgas sorted : List ℕ) → AllPairs (λ x y. x ≢ y) fpgas → IsPermutation fpgas sorted
    → IsSorted nat_cmp sorted → AreRising fpgas sorted
rising-sorted fpgas sorted distinct moved in_order = record {
  rises = sorted_rising fpgas sorted distinct moved in_order;
  same = λ f. (
    Contains-permutation sorted fpgas f (IsPermutation-sym fpgas sorted moved),
    Contains-permutation fpgas sorted f moved,
  );
}
