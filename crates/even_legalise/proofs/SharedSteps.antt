-- what the loops over the nets make of the claims
use Rattle.std.proofs.Common.{◌≡◌, ℕ, ◌+◌, ◌*◌, ◌<◌, ◌≤◌, ◌^◌, List, [], ◌∷◌, ◌++◌, length, map, get_or, take, ap, sym, ◌∙◌, subst, refl, arith}
use Rattle.std.specs.Prelude.{All, max, sum, sum_by}
use Rattle.std.specs.List.{zip}
use Rattle.std.proofs.lemmas.List.{take_more, length-map, get_or-map, map-append}
use Rattle.std.proofs.lemmas.List.Elements.{All-head, All-tail}
use Rattle.std.proofs.lemmas.List.Sums.{sum_by-cons}
use Rattle.std.proofs.lemmas.Slice.Zip.{length-zip, get_or-zip}
use Rattle.tdm_problem.specs.declared.solution.WireUse.{WireUse}
use Rattle.tdm_problem.specs.Board.{Board}
use Rattle.tdm_problem.specs.Routing.{ratios_of}
use Rattle.tdm_problem.specs.Trees.{tree_of, AreTreesFor, HasRisingRows}
use Rattle.ratio_shares.specs.Shares.{claims_of, share_for}
use Rattle.ratio_shares.proofs.Claims.{claims-le, claims-positive, least_claim-le}
use Rattle.even_legalise.specs.Uniform.{nets_on}
use Rattle.even_legalise.specs.Shared.{even_ratio, numbers_on, shared_ratio, shared_uses, shared_routing}
use Rattle.even_legalise.specs.Claims.{HasLeast, HasClaims}
use Rattle.even_legalise.proofs.Numbers.{numbers_on-all, length-numbers_on}
use Rattle.even_legalise.proofs.ClaimSteps.{numbers_on-le}
use Rattle.even_legalise.proofs.UniformLaws.{nets_on_used}
use Rattle.even_legalise.proofs.UniformIsLegal.{distinct_rows}

-- the ratio for a net's claim, where the least claim and all claims are known of each wire
abbrev pub claimed_ratio : (least claims : List ℕ) → (number e : ℕ) → ℕ
claimed_ratio least claims number e =
    even_ratio (share_for (get_or claims e 0) 1 (max number (get_or least e 0)))

claimed_is_shared : (board : Board) (trees : List (List ℕ)) (numbers least claims : List ℕ)
    (wires number e : ℕ) → HasLeast trees numbers wires least → HasClaims trees numbers wires claims
    → e < wires → claimed_ratio least claims number e ≡ shared_ratio board trees numbers e number
claimed_is_shared board trees numbers least claims wires number e is_least is_claims there =
    ap (λ (m : ℕ). even_ratio (share_for m 1 (max number (get_or least e 0)))) (is_claims.each e there)
    ∙ ap (λ (m : ℕ). even_ratio (share_for (claims_of (numbers_on trees numbers e)) 1 (max number m)))
    (is_least.each e there)

-- the uses by the claims are those that the shares give
claimed_uses : (board : Board) (trees : List (List ℕ)) (numbers least claims : List ℕ) (wires number : ℕ)
    (row : List ℕ) → HasLeast trees numbers wires least → HasClaims trees numbers wires claims
    → All (λ e. e < wires) row
    → map (λ e. record { wire = e; ratio = claimed_ratio least claims number e }) row
    ≡ shared_uses board trees numbers row number
claimed_uses board trees numbers least claims wires number [] is_least is_claims there = refl
claimed_uses board trees numbers least claims wires number (e ∷ row) is_least is_claims there =
    ap (λ (ratio : ℕ). record { wire = e; ratio = ratio }
    ∷ map (λ x. record { wire = x; ratio = claimed_ratio least claims number x }) row)
    (claimed_is_shared board trees numbers least claims wires number e is_least is_claims
    (All-head (λ x. x < wires) e row there))
    ∙ ap (λ rest. record { wire = e; ratio = shared_ratio board trees numbers e number } ∷ rest)
    (claimed_uses board trees numbers least claims wires number row is_least is_claims
    (All-tail (λ x. x < wires) e row there))

-- the sum of the ratios by the claims
sum_of_ratios : (ratio : ℕ → ℕ) (row : List ℕ)
    → sum_by ratio row ≡ sum (ratios_of (map (λ e. record { wire = e; ratio = ratio e }) row))
sum_of_ratios ratio [] = refl
sum_of_ratios ratio (e ∷ row) =
    sum_by-cons ratio e row
    ∙ (ap (λ (m : ℕ). ratio e + m) (sum_of_ratios ratio row)
    ∙ sym (sum_by-cons (λ (x : ℕ). x) (ratio e)
    (ratios_of (map (λ x. record { wire = x; ratio = ratio x }) row))))

-- the uses of a net, by its place
pub uses_at : (board : Board) (trees : List (List ℕ)) (numbers : List ℕ) (n : ℕ) (row : List ℕ) (number : ℕ)
    → length numbers ≡ length trees → n < length trees → tree_of trees n ≡ row → get_or numbers n 0 ≡ number
    → get_or (shared_routing board trees numbers) n [] ≡ shared_uses board trees numbers row number
uses_at board trees numbers n row number paired inside is_row is_number =
    get_or-map (λ (net : List ℕ × ℕ). shared_uses board trees numbers net.0 net.1) (zip trees numbers) n (
      [],
      0,
    ) [] (omega (arith, length-zip trees numbers))
    ∙ (ap (λ (net : List ℕ × ℕ). shared_uses board trees numbers net.0 net.1) (get_or-zip trees numbers n (
      [],
      0,
    ) inside (omega arith))
    ∙ (ap (λ r. shared_uses board trees numbers r (get_or numbers n 0)) is_row
    ∙ ap (λ (x : ℕ). shared_uses board trees numbers row x) is_number))

pub length-shared : (board : Board) (trees : List (List ℕ)) (numbers : List ℕ) → length numbers ≡ length trees
    → length (shared_routing board trees numbers) ≡ length trees
length-shared board trees numbers paired =
    omega (
      arith,
      length-map (zip trees numbers) (λ (net : List ℕ × ℕ). shared_uses board trees numbers net.0
          net.1),
      length-zip trees numbers,
    )

row_there : (board : Board) (trees : List (List ℕ)) (n : ℕ) (row : List ℕ) → AreTreesFor board trees
    → n < length trees → tree_of trees n ≡ row → All (λ e. e < length board.wires) row
row_there board trees n row for inside is_row = subst (λ es. All (λ e. e < length board.wires) es) is_row
    (for.there n [] inside)

-- one net more of the routing
pub shared_more : (board : Board) (trees : List (List ℕ)) (numbers least claims : List ℕ) (n : ℕ)
    (row : List ℕ) (number : ℕ) (uses : List WireUse) → AreTreesFor board trees
    → length numbers ≡ length trees → HasLeast trees numbers (length board.wires) least
    → HasClaims trees numbers (length board.wires) claims → n < length trees → tree_of trees n ≡ row
    → get_or numbers n 0 ≡ number
    → uses ≡ map (λ e. record { wire = e; ratio = claimed_ratio least claims number e }) row
    → take (n + 1) (shared_routing board trees numbers) ≡ take n (shared_routing board trees numbers)
    ++ uses ∷ []
shared_more board trees numbers least claims n row number uses for paired is_least is_claims inside is_row
    is_number is_uses =
    take_more (shared_routing board trees numbers) n []
    (omega (arith, length-shared board trees numbers paired))
    ∙ ap (λ u. take n (shared_routing board trees numbers) ++ u ∷ [])
    (uses_at board trees numbers n row number paired inside is_row is_number
    ∙ (sym (claimed_uses board trees numbers least claims (length board.wires) number row is_least is_claims
    (row_there board trees n row for inside is_row)) ∙ sym is_uses))

-- one net's sum more
pub shared_sums_more : (board : Board) (trees : List (List ℕ)) (numbers least claims : List ℕ) (n : ℕ)
    (row : List ℕ) (number total : ℕ) → AreTreesFor board trees → length numbers ≡ length trees
    → HasLeast trees numbers (length board.wires) least → HasClaims trees numbers (length board.wires) claims
    → n < length trees → tree_of trees n ≡ row → get_or numbers n 0 ≡ number
    → total ≡ sum_by (claimed_ratio least claims number) row
    → map (λ uses. sum (ratios_of uses)) (take (n + 1) (shared_routing board trees numbers))
    ≡ map (λ uses. sum (ratios_of uses)) (take n (shared_routing board trees numbers)) ++ total ∷ []
shared_sums_more board trees numbers least claims n row number total for paired is_least is_claims inside
    is_row is_number is_total =
    ap (map (λ uses. sum (ratios_of uses))) (shared_more board trees numbers least claims n row number
    (map (λ e. record { wire = e; ratio = claimed_ratio least claims number e }) row) for paired
    is_least is_claims inside is_row is_number refl)
    ∙ (map-append (λ uses. sum (ratios_of uses)) (take n (shared_routing board trees numbers))
    (map (λ e. record { wire = e; ratio = claimed_ratio least claims number e }) row ∷ [])
    ∙ ap (λ (x : ℕ). map (λ uses. sum (ratios_of uses)) (take n (shared_routing board trees numbers)) ++ x
    ∷ []) (sym (is_total ∙ sum_of_ratios (claimed_ratio least claims number) row)))

-- at the wires of a net the claims are in the range in which there is a ratio
pub record AreClaims (least claims row : List ℕ) (number : ℕ) : Type 0 where
  pub there : All (λ e. e < length least) row
  pub some : All (λ e. 1 ≤ get_or least e 0) row
  pub least_small : All (λ e. get_or least e 0 ≤ 2 ^ 30) row
  pub some_claims : All (λ e. 1 ≤ get_or claims e 0) row
  pub few : All (λ e. get_or claims e 0 ≤ 2 ^ 30 * max number (get_or least e 0)) row

pub are_claims : (board : Board) (trees : List (List ℕ)) (numbers least claims : List ℕ) (n : ℕ)
    (row : List ℕ) (number : ℕ) → AreTreesFor board trees → HasRisingRows trees
    → length numbers ≡ length trees → All (λ x. x ≤ 2 ^ 30) numbers
    → HasLeast trees numbers (length board.wires) least → HasClaims trees numbers (length board.wires) claims
    → n < length trees → tree_of trees n ≡ row → AreClaims least claims row number
are_claims board trees numbers least claims n row number for rising paired small is_least is_claims inside
    is_row =
    let wires : All (λ e. e < length board.wires) row = row_there board trees n row for inside is_row in
    let used : (k d : ℕ) → k < length row → 1 ≤ nets_on trees (get_or row k d) = λ k d in_row.
    subst (λ (es : List ℕ). k < length es → 1 ≤ nets_on trees (get_or es k d)) is_row
    (nets_on_used trees n k [] d inside) in_row in
    record {
      there = λ k d in_row. omega (arith, wires k d in_row, is_least.whole);
      some = λ k d in_row. omega (arith, is_least.each (get_or row k d) (wires k d in_row));
      least_small = λ k d in_row. omega (
        arith,
        is_least.each (get_or row k d) (wires k d in_row),
        least_claim-le (numbers_on trees numbers (get_or row k d))
            (numbers_on-all (λ x. x ≤ 2 ^ 30) trees numbers (get_or row k d) small),
      );
      some_claims = λ k d in_row. omega (
        arith,
        is_claims.each (get_or row k d) (wires k d in_row),
        claims-positive (numbers_on trees numbers (get_or row k d)) (omega (
          arith,
          used k d in_row,
          length-numbers_on trees numbers (get_or row k d) paired,
        )),
      );
      few = λ k d in_row. omega (
        arith,
        is_claims.each (get_or row k d) (wires k d in_row),
        is_least.each (get_or row k d) (wires k d in_row),
        claims-le (numbers_on trees numbers (get_or row k d)) number
            (omega (
              arith,
              numbers_on-le trees numbers (get_or row k d) (distinct_rows trees rising) paired,
              rising.net_limit,
            )),
      );
    }
