-- What a changed ratio does to the sums of the groups, and which of them is worst.
use Rattle.std.proofs.Common.{◌≡◌, ◌≢◌, ℕ, zero, suc, ◌+◌, ◌<◌, ◌≤◌, Bool, true, false, cond, List, length, get_or, set, take, refl, sym, ap, ◌∙◌, subst, ⊎_elim, arith, get_or-set_same, get_or-set_other}
use Rattle.std.specs.Prelude.{AllPairs, slice_index, slice_index_or, ◌==◌, ◌||◌, sum}
use Rattle.std.specs.List.{list_any}
use Rattle.std.proofs.Math.Bool.{or-true, or-false}
use Rattle.std.proofs.lemmas.Bool.{cases_eq, eq-eqb, ne_eqb}
use Rattle.std.proofs.lemmas.List.{length-set, map-set, get_or-map, length-map}
use Rattle.std.proofs.lemmas.List.Folds.{list_any_more}
use Rattle.std.proofs.lemmas.List.Sums.{sum_by-set}
use Rattle.tdm_problem.specs.declared.solution.WireUse.{WireUse}
use Rattle.tdm_problem.specs.Routing.{Routing, uses_of, wires_of, ratios_of, with_ratio}
use Rattle.tdm_problem.specs.Sums.{sum_below}
use Rattle.tdm_problem.specs.Value.{net_sum}
use Rattle.tdm_problem.proofs.SumsBelow.{sum_below-agree}
use Rattle.tdm_problem.proofs.Routings.{uses_of-with_ratio_other, uses_of-with_ratio_same}
use Rattle.net_groups.specs.Incidence.{NetGroups, groups_of, sum_before}
use Rattle.net_groups.specs.Running.{AreSums}
use Rattle.net_groups.proofs.Holders.{holds}
use Rattle.net_groups.proofs.Gathered.{not_before}

-- at the first so many places an amount is taken off and another added
pub record IsExchanged (off on : ℕ) (places : List ℕ) (i : ℕ) (old new : List ℕ) : Type 0 where
  pub count : length new ≡ length old
  pub each : (n : ℕ) → n < length old → slice_index new n + cond (holds (take i places) n) off 0
      ≡ slice_index old n + cond (holds (take i places) n) on 0

pub exchanged_none : (off on : ℕ) (places xs : List ℕ) → IsExchanged off on places 0 xs xs
exchanged_none off on places xs = record { count = refl; each = λ n there. refl }

pub exchanged_more : (off on : ℕ) (places : List ℕ) (i : ℕ) (old new : List ℕ) (v : ℕ)
    → AllPairs (λ x y. x ≢ y) places → i < length places → get_or places i 0 < length old
    → v + off ≡ slice_index new (get_or places i 0) + on → IsExchanged off on places i old new
    → IsExchanged off on places (i + 1) old (set new (get_or places i 0) v)
exchanged_more off on places i old new v distinct there below is so_far =
    let x : ℕ = get_or places i 0 in
    let more : (n : ℕ) → holds (take (i + 1) places) n ≡ (holds (take i places) n || (x == n)) =
    λ n. list_any_more (λ m. m == n) places i 0 there in
    record {
      count = length-set new x v ∙ so_far.count;
      each = λ n inside. ⊎_elim
          (λ (same : n ≡ x).
          let now : holds (take (i + 1) places) x ≡ true =
          more x ∙ ap (λ (b : Bool). holds (take i places) x || b) (eq-eqb x x refl)
          ∙ or-true (holds (take i places) x) in
          let was : holds (take i places) x ≡ false = not_before places i distinct there in
          let off_now : cond (holds (take (i + 1) places) x) off 0 ≡ off =
          ap (λ (b : Bool). cond b off 0) now in
          let on_now : cond (holds (take (i + 1) places) x) on 0 ≡ on = ap (λ (b : Bool). cond b on 0) now in
          let off_was : cond (holds (take i places) x) off 0 ≡ 0 = ap (λ (b : Bool). cond b off 0) was in
          let on_was : cond (holds (take i places) x) on 0 ≡ 0 = ap (λ (b : Bool). cond b on 0) was in
          let written : slice_index (set new x v) x ≡ v =
          get_or-set_same new x v 0 (omega (arith, below, so_far.count)) in
          let at_x : slice_index (set new x v) x + cond (holds (take (i + 1) places) x) off 0
          ≡ slice_index old x + cond (holds (take (i + 1) places) x) on 0 =
          omega (arith, written, is, off_now, on_now, off_was, on_was, so_far.each x below) in
          subst (λ (m : ℕ). slice_index (set new x v) m + cond (holds (take (i + 1) places) m) off 0
          ≡ slice_index old m + cond (holds (take (i + 1) places) m) on 0) (sym same) at_x)
          (λ (other : n ≢ x).
          let now : holds (take (i + 1) places) n ≡ holds (take i places) n =
          more n ∙ ap (λ (b : Bool). holds (take i places) n || b) (ne_eqb x n (λ same. other (sym same)))
          ∙ or-false (holds (take i places) n) in
          let off_now : cond (holds (take (i + 1) places) n) off 0 ≡ cond (holds (take i places) n) off 0 =
          ap (λ (b : Bool). cond b off 0) now in
          let on_now : cond (holds (take (i + 1) places) n) on 0 ≡ cond (holds (take i places) n) on 0 =
          ap (λ (b : Bool). cond b on 0) now in
          let kept : slice_index (set new x v) n ≡ slice_index new n = get_or-set_other new x n v 0 other in
          omega (arith, kept, off_now, on_now, so_far.each n inside))
          (cases_eq n x);
    }

-- two functions that differ at one number alone
sum_below-exchanged : (n k off on : ℕ) (f g : ℕ → ℕ) → k < n → ((i : ℕ) → i < n → i ≢ k → f i ≡ g i)
    → f k + off ≡ g k + on → sum_below n f + off ≡ sum_below n g + on
sum_below-exchanged zero k off on f g below agree here = absurd (omega arith)
sum_below-exchanged (suc n) k off on f g below agree here =
    ⊎_elim
    (λ (last : n ≡ k).
    let before : sum_below n f ≡ sum_below n g =
    sum_below-agree n f g (λ i small. agree i (omega (arith, small)) (λ (e : i ≡ k). omega (
      arith,
      e,
      small,
      last,
    ))) in
    let same : f n + off ≡ g n + on = subst (λ (m : ℕ). f m + off ≡ g m + on) (sym last) here in
    omega (arith, before, same))
    (λ (other : n ≢ k).
    let before : sum_below n f + off ≡ sum_below n g + on =
    sum_below-exchanged n k off on f g (omega (arith, below, other))
    (λ i small apart. agree i (omega (arith, small)) apart) here in
    omega (arith, before, agree n (omega arith) other))
    (cases_eq n k)

-- the sum of a net with another ratio
net_sum-with_ratio : (routing : Routing) (n place ratio : ℕ) → n < length routing
    → place < length (uses_of routing n) → net_sum (with_ratio routing n place ratio) n
    + slice_index (ratios_of (uses_of routing n)) place ≡ net_sum routing n + ratio
net_sum-with_ratio routing n place ratio there place_there =
    let uses : List WireUse = uses_of routing n in
    let changed : WireUse = record { wire = slice_index (wires_of uses) place; ratio = ratio } in
    let ratios : ratios_of (uses_of (with_ratio routing n place ratio) n) ≡ set (ratios_of uses) place ratio =
    ap ratios_of (uses_of-with_ratio_same routing n place ratio there)
    ∙ map-set (λ (u : WireUse). u.ratio) uses place changed in
    let total : net_sum (with_ratio routing n place ratio) n ≡ sum (set (ratios_of uses) place ratio) =
    ap sum ratios in
    let moved : sum (set (ratios_of uses) place ratio) + slice_index (ratios_of uses) place
    ≡ sum (ratios_of uses) + ratio =
    sum_by-set (λ (r : ℕ). r) (ratios_of uses) place ratio 0 (omega (
      arith,
      place_there,
      length-map uses (λ (u : WireUse). u.ratio),
    )) in
    omega (arith, total, moved)

exchanged-part : (b : Bool) (new old off on : ℕ) → new + off ≡ old + on
    → cond b new 0 + cond b off 0 ≡ cond b old 0 + cond b on 0
exchanged-part true new old off on is = is
exchanged-part false new old off on is = refl

-- sums in which the groups of the net were exchanged are those of the solution with the other ratio
pub kept : (incidence : NetGroups) (routing new : Routing) (row : List WireUse) (d : WireUse)
    (n place ratio off on : ℕ) (groups sums sums' : List ℕ)
    → uses_of routing n ≡ row → groups_of incidence n ≡ groups → new ≡ with_ratio routing n place ratio
    → n < length routing → place < length (uses_of routing n) → length routing ≡ length incidence.of_nets
    → off ≡ (slice_index_or row place d).ratio → on ≡ ratio → AreSums incidence routing sums
    → length sums' ≡ length sums
    → ((g : ℕ) → g < length sums → slice_index sums' g + cond (list_any (λ h. h == g) groups) off 0
    ≡ slice_index sums g + cond (list_any (λ h. h == g) groups) on 0) → AreSums incidence new sums'
kept incidence routing new row d n place ratio off on groups sums sums' row_is groups_are new_is there
    place_there paired off_is on_is were count each =
    let old : ℕ = slice_index (ratios_of (uses_of routing n)) place in
    let read : (slice_index_or row place d).ratio ≡ old =
    ap (λ (us : List WireUse). (slice_index_or us place d).ratio) (sym row_is)
    ∙ sym (get_or-map (λ (u : WireUse). u.ratio) (uses_of routing n) place d 0 place_there) in
    let next : Routing = with_ratio routing n place ratio in
    let whole : AreSums incidence next sums' = record {
      count = count ∙ were.count;
      each = λ g inside.
          let in_net : ℕ → Bool = λ m. list_any (λ h. h == g) (groups_of incidence m) in
          let parts : cond (in_net n) (net_sum next n) 0 + cond (in_net n) old 0
          ≡ cond (in_net n) (net_sum routing n) 0 + cond (in_net n) ratio 0 =
          exchanged-part (in_net n) (net_sum next n) (net_sum routing n) old ratio
          (net_sum-with_ratio routing n place ratio there place_there) in
          let moved : sum_before incidence next (length incidence.of_nets) g + cond (in_net n) old 0
          ≡ sum_before incidence routing (length incidence.of_nets) g + cond (in_net n) ratio 0 =
          sum_below-exchanged (length incidence.of_nets) n (cond (in_net n) old 0) (cond (in_net n) ratio 0)
          (λ m. cond (in_net m) (net_sum next m) 0) (λ m. cond (in_net m) (net_sum routing m) 0)
          (omega (arith, there, paired))
          (λ m below other. ap (λ (us : List WireUse). cond (in_net m) (sum (ratios_of us)) 0)
          (uses_of-with_ratio_other routing n place ratio m other))
          parts in
          let written : slice_index sums' g + cond (in_net n) off 0 ≡ slice_index sums g
          + cond (in_net n) on 0 =
          subst (λ (gs : List ℕ). slice_index sums' g + cond (list_any (λ h. h == g) gs) off 0
          ≡ slice_index sums g + cond (list_any (λ h. h == g) gs) on 0) (sym groups_are)
          (each g (omega (arith, inside, were.count))) in
          let off_part : cond (in_net n) off 0 ≡ cond (in_net n) old 0 =
          ap (λ (o : ℕ). cond (in_net n) o 0) (off_is ∙ read) in
          let on_part : cond (in_net n) on 0 ≡ cond (in_net n) ratio 0 =
          ap (λ (o : ℕ). cond (in_net n) o 0) on_is in
          omega (arith, moved, written, off_part, on_part, were.each g inside);
    } in
    subst (λ (r : Routing). AreSums incidence r sums') (sym new_is) whole

-- the first largest of the first so many sums
pub record IsWorstBefore (sums : List ℕ) (count g : ℕ) : Type 0 where
  pub there : g < count
  pub largest : (h : ℕ) → h < count → slice_index sums h ≤ slice_index sums g
  pub first : (h : ℕ) → h < g → slice_index sums h < slice_index sums g

pub worst_one : (sums : List ℕ) → IsWorstBefore sums 1 0
worst_one sums = record {
  there = omega arith;
  largest = λ h below. let none : h ≡ 0 = omega (arith, below) in
      subst (λ (m : ℕ). slice_index sums m ≤ slice_index sums 0) (sym none) (omega arith);
  first = λ h below. absurd (omega (arith, below));
}

-- one sum more, which is larger than the worst, or is not
pub worst_next : (sums : List ℕ) (count g : ℕ) → slice_index sums g < slice_index sums count
    → IsWorstBefore sums count g → IsWorstBefore sums (count + 1) count
worst_next sums count g larger so_far = record {
  there = omega arith;
  largest = λ h below. ⊎_elim
      (λ (last : h ≡ count). subst (λ (m : ℕ). slice_index sums m ≤ slice_index sums count) (sym last)
      (omega arith))
      (λ (other : h ≢ count). omega (arith, larger, so_far.largest h (omega (arith, below, other))))
      (cases_eq h count);
  first = λ h below. omega (arith, larger, so_far.largest h below);
}

pub worst_kept : (sums : List ℕ) (count g : ℕ) → slice_index sums count ≤ slice_index sums g
    → IsWorstBefore sums count g → IsWorstBefore sums (count + 1) g
worst_kept sums count g smaller so_far = record {
  there = omega (arith, so_far.there);
  largest = λ h below. ⊎_elim
      (λ (last : h ≡ count). subst (λ (m : ℕ). slice_index sums m ≤ slice_index sums g) (sym last) smaller)
      (λ (other : h ≢ count). so_far.largest h (omega (arith, below, other)))
      (cases_eq h count);
  first = so_far.first;
}
