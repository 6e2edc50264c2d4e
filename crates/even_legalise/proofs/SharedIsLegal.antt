-- the solution that shares give is legal
use Rattle.std.proofs.Common.{◌≡◌, ◌≢◌, ℕ, ◌+◌, ◌*◌, ◌<◌, ◌≤◌, ◌^◌, List, [], ◌∷◌, length, map, get_or, ap, sym, ◌∙◌, subst, refl, arith}
use Rattle.std.specs.Prelude.{All, AllPairs, Contains, sum_by}
use Rattle.std.specs.List.{zip}
use Rattle.std.specs.List.Sorted.{IsStrictlyIncreasing}
use Rattle.std.proofs.lemmas.List.Elements.{All-map}
use Rattle.std.proofs.lemmas.List.Sums.{sum_by-cons, sum-map}
use Rattle.std.proofs.lemmas.Slice.Zip.{length-zip, get_or-zip}
use Rattle.tdm_problem.specs.Board.{Board}
use Rattle.tdm_problem.specs.Fit.{FitsLanes}
use Rattle.tdm_problem.specs.Legal.{IsEvenRatio, IsLegal, terminals_of}
use Rattle.tdm_problem.specs.Routing.{uses_of, wires_of, ratios_of, IsFor, HasRisingWires}
use Rattle.tdm_problem.specs.Trees.{tree_of, AreTreesFor, HasRisingRows}
use Rattle.tdm_problem.specs.Walk.{Joins}
use Rattle.ratio_shares.specs.Shares.{share_in}
use Rattle.ratio_shares.proofs.Claims.{share-least, shares-le}
use Rattle.even_legalise.specs.Laws.{Shared}
use Rattle.even_legalise.specs.Uniform.{JoinsEachNet}
use Rattle.even_legalise.specs.Shared.{even_ratio, numbers_on, shared_ratio, shared_uses, shared_routing}
use Rattle.even_legalise.proofs.ClaimSteps.{numbers_on-le}
use Rattle.even_legalise.proofs.Evens.{even_ratio-enough, even_ratio-even, even_ratio-le}
use Rattle.even_legalise.proofs.Numbers.{ratios_by_numbers, length-numbers_on}
use Rattle.even_legalise.proofs.SharedSteps.{length-shared, uses_at}
use Rattle.even_legalise.proofs.SharesFit.{share_law}
use Rattle.even_legalise.proofs.UniformIsLegal.{distinct_rows}
use Rattle.even_legalise.proofs.UniformLaws.{nets_on_used, wires_of_uses}

-- what holds of the tree and the number of each net holds of the uses
each_uses : (Q : List ℕ → ℕ → Type 0) (trees : List (List ℕ)) (numbers : List ℕ)
    → length numbers ≡ length trees → ((n : ℕ) (none : List ℕ) (d : ℕ) → n < length trees
    → Q (get_or trees n none) (get_or numbers n d))
    → All (λ (net : List ℕ × ℕ). Q net.0 net.1) (zip trees numbers)
each_uses Q trees numbers paired holds = λ n d inside.
    let there : n < length trees = omega (arith, length-zip trees numbers) in
    subst (λ (net : List ℕ × ℕ). Q net.0 net.1) (sym (get_or-zip trees numbers n d there (omega arith)))
    (holds n d.0 d.1 there)

wires_of_shared : (board : Board) (trees : List (List ℕ)) (numbers wires : List ℕ) (number : ℕ)
    → wires_of (shared_uses board trees numbers wires number) ≡ wires
wires_of_shared board trees numbers wires number =
    wires_of_uses (λ e. shared_ratio board trees numbers e number) wires

shared_is_for : (board : Board) (trees : List (List ℕ)) (numbers : List ℕ) → AreTreesFor board trees
    → HasRisingRows trees → length numbers ≡ length trees → IsFor board (shared_routing board trees numbers)
shared_is_for board trees numbers for rising paired = record {
  nets = length-shared board trees numbers paired ∙ for.nets;
  there = All-map (λ uses. All (λ u. u.wire < length board.wires) uses)
      (λ (net : List ℕ × ℕ). shared_uses board trees numbers net.0 net.1) (zip trees numbers)
      (each_uses (λ wires number. All (λ u. u.wire < length board.wires)
      (shared_uses board trees numbers wires number)) trees numbers paired
      (λ n none d inside. All-map (λ u. u.wire < length board.wires) (λ e. record {
        wire = e;
        ratio = shared_ratio board trees numbers e (get_or numbers n d);
      }) (get_or trees n none)
      (for.there n none inside)));
  distinct = All-map (λ uses. AllPairs (λ d e. d ≢ e) (wires_of uses))
      (λ (net : List ℕ × ℕ). shared_uses board trees numbers net.0 net.1) (zip trees numbers)
      (each_uses (λ wires number. AllPairs (λ d e. d ≢ e)
      (wires_of (shared_uses board trees numbers wires number))) trees numbers paired
      (λ n none d inside. subst (λ wires. AllPairs (λ x y. x ≢ y) wires)
      (sym (wires_of_shared board trees numbers (get_or trees n none) (get_or numbers n d)))
      (distinct_rows trees rising n none inside)));
}

pub shared_wires_rise : (board : Board) (trees : List (List ℕ)) (numbers : List ℕ) → HasRisingRows trees
    → length numbers ≡ length trees → HasRisingWires (shared_routing board trees numbers)
shared_wires_rise board trees numbers rising paired = record {
  net_limit = omega (arith, length-shared board trees numbers paired, rising.net_limit);
  rising = All-map (λ uses. IsStrictlyIncreasing (wires_of uses))
      (λ (net : List ℕ × ℕ). shared_uses board trees numbers net.0 net.1) (zip trees numbers)
      (each_uses (λ wires number. IsStrictlyIncreasing
      (wires_of (shared_uses board trees numbers wires number))) trees numbers paired
      (λ n none d inside. subst IsStrictlyIncreasing
      (sym (wires_of_shared board trees numbers (get_or trees n none) (get_or numbers n d)))
      (rising.rising n none inside)));
}

-- what holds of the ratio for each large enough share holds of each ratio
each_ratio : (P : ℕ → Type 0) (board : Board) (trees : List (List ℕ)) (numbers : List ℕ) → HasRisingRows trees
    → length numbers ≡ length trees → ((share : ℕ) → 2 ^ 34 ≤ share → P (even_ratio share))
    → All (λ uses. All P (ratios_of uses)) (shared_routing board trees numbers)
each_ratio P board trees numbers rising paired holds =
    All-map (λ uses. All P (ratios_of uses)) (λ (net : List ℕ × ℕ). shared_uses board trees numbers net.0
    net.1) (zip trees numbers)
    (each_uses (λ wires number. All P (ratios_of (shared_uses board trees numbers wires number))) trees
    numbers paired
    (λ n none d inside. All-map P (λ u. u.ratio) (shared_uses board trees numbers (get_or trees n none)
    (get_or numbers n d))
    (All-map (λ u. P u.ratio) (λ e. record {
      wire = e;
      ratio = shared_ratio board trees numbers e (get_or numbers n d);
    }) (get_or trees n none)
    (λ k x in_row.
    let few : length (numbers_on trees numbers (get_or (get_or trees n none) k x)) ≤ length trees =
    numbers_on-le trees numbers (get_or (get_or trees n none) k x) (distinct_rows trees rising) paired in
    let some : 1 ≤ length (numbers_on trees numbers (get_or (get_or trees n none) k x)) =
    omega (
      arith,
      nets_on_used trees n k none x inside in_row,
      length-numbers_on trees numbers (get_or (get_or trees n none) k x) paired,
    ) in
    holds (share_in (numbers_on trees numbers (get_or (get_or trees n none) k x)) 1 (get_or numbers n d))
    (share-least (numbers_on trees numbers (get_or (get_or trees n none) k x)) 1 (get_or numbers n d) some
    (omega (arith, few, rising.net_limit)) (omega arith))))))

pub shared_ratios_small : (board : Board) (trees : List (List ℕ)) (numbers : List ℕ) → HasRisingRows trees
    → length numbers ≡ length trees → All (λ uses. All (λ ratio. ratio < 2 ^ 32) (ratios_of uses))
    (shared_routing board trees numbers)
shared_ratios_small board trees numbers rising paired =
    each_ratio (λ ratio. ratio < 2 ^ 32) board trees numbers rising paired (λ share least. omega (
      arith,
      even_ratio-le share least,
    ))

-- ratios and shares of a list, as one list of both
both_ratios : (f g : ℕ → ℕ) (xs : List ℕ)
    → map (λ (item : Shared). item.ratio) (map (λ x. record { ratio = f x; share = g x }) xs) ≡ map f xs
both_ratios f g [] = refl
both_ratios f g (x ∷ xs) = ap (λ rest. f x ∷ rest) (both_ratios f g xs)

both_shares : (f g : ℕ → ℕ) (xs : List ℕ)
    → sum_by (λ (item : Shared). item.share) (map (λ x. record { ratio = f x; share = g x }) xs) ≡ sum_by g xs
both_shares f g [] = refl
both_shares f g (x ∷ xs) =
    sum_by-cons (λ (item : Shared). item.share) (record { ratio = f x; share = g x })
    (map (λ y. record { ratio = f y; share = g y }) xs)
    ∙ (ap (λ (m : ℕ). g x + m) (both_shares f g xs) ∙ sym (sum_by-cons g x xs))

-- the even ratios for the shares of up to 2^20 numbers fit the lanes
numbers-fit : (numbers : List ℕ) → length numbers ≤ 2 ^ 20
    → FitsLanes (map (λ x. even_ratio (share_in numbers 1 x)) numbers) 1
numbers-fit numbers few =
    subst (λ ratios. FitsLanes ratios 1) (both_ratios (λ x. even_ratio (share_in numbers 1 x))
    (share_in numbers 1) numbers)
    (share_law (map (λ x. record { ratio = even_ratio (share_in numbers 1 x); share = share_in numbers 1 x })
    numbers) 1
    (All-map (λ (item : Shared). 2 ^ 64 ≤ item.ratio * item.share)
    (λ x. record { ratio = even_ratio (share_in numbers 1 x); share = share_in numbers 1 x }) numbers
    (λ k d inside. even_ratio-enough (share_in numbers 1 (get_or numbers k d))
    (omega (arith, share-least numbers 1 (get_or numbers k d) (omega arith) few (omega arith)))))
    (omega (
      arith,
      both_shares (λ x. even_ratio (share_in numbers 1 x)) (share_in numbers 1) numbers,
      sum-map (share_in numbers 1) numbers,
      shares-le numbers 1,
    )))

-- the wires of a net in the solution are those of its tree
wires_at : (board : Board) (trees : List (List ℕ)) (numbers : List ℕ) (n : ℕ) → length numbers ≡ length trees
    → n < length trees → wires_of (uses_of (shared_routing board trees numbers) n) ≡ tree_of trees n
wires_at board trees numbers n paired inside =
    ap wires_of (uses_at board trees numbers n (tree_of trees n) (get_or numbers n 0) paired inside refl refl)
    ∙ wires_of_shared board trees numbers (tree_of trees n) (get_or numbers n 0)

pub shared_is_legal : (board : Board) (trees : List (List ℕ)) (numbers : List ℕ) → AreTreesFor board trees
    → HasRisingRows trees → JoinsEachNet board trees → length numbers ≡ length trees
    → IsLegal board (shared_routing board trees numbers)
shared_is_legal board trees numbers for rising joined paired = record {
  is_for = shared_is_for board trees numbers for rising paired;
  joined = λ n inside.
      let same : wires_of (uses_of (shared_routing board trees numbers) n) ≡ tree_of trees n =
      wires_at board trees numbers n paired (omega (arith, for.nets)) in
      subst (λ wires. Joins board (Contains wires) (terminals_of board n)) (sym same) (joined n inside);
  even = each_ratio IsEvenRatio board trees numbers rising paired
      (λ share least. even_ratio-even share (omega arith));
  fits = λ e inside.
      subst (λ ratios. FitsLanes ratios 1)
      (sym (ratios_by_numbers (shared_ratio board trees numbers) trees numbers e))
      (numbers-fit (numbers_on trees numbers e)
      (omega (
        arith,
        numbers_on-le trees numbers e (distinct_rows trees rising) paired,
        rising.net_limit,
      )));
}
