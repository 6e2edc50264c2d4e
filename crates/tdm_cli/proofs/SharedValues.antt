-- The solution that shares give has the wires of the trees, and its sums are not too large.
use Rattle.std.proofs.Common.{◌≡◌, ℕ, zero, suc, ◌^◌, ◌<◌, ◌≤◌, ◌⊎◌, List, [], ◌∷◌, length, get_or, map, refl, sym, ap, ◌∙◌, inl, inr, arith}
use Rattle.std.specs.Prelude.{All, sum, sum_by}
use Rattle.std.specs.List.{zip}
use Rattle.std.proofs.lemmas.Bool.{cases_lt}
use Rattle.std.proofs.lemmas.List.{get_or_default, get_or_past, length-map}
use Rattle.std.proofs.lemmas.List.Sums.{sum_by-cons, sum_by-le}
use Rattle.std.proofs.lemmas.List.Elements.{All-map}
use Rattle.tdm_problem.specs.declared.solution.WireUse.{WireUse}
use Rattle.tdm_problem.specs.Board.{Board, IsBoard}
use Rattle.tdm_problem.specs.Routing.{Routing, ratios_of, uses_of, wires_of}
use Rattle.tdm_problem.specs.Trees.{tree_of, trees_of, HasRisingRows}
use Rattle.tdm_problem.specs.Value.{group_sum, net_sum}
use Rattle.even_legalise.specs.Shared.{shared_ratio, shared_routing}
use Rattle.even_legalise.proofs.SharedIsLegal.{shared_ratios_small}
use Rattle.tdm_cli.specs.Baseline.{most_uses}

-- ---- wires

wires-of_uses : (ratio : ℕ → ℕ) (row : List ℕ)
    → wires_of (map (λ e. let u : WireUse = record { wire = e; ratio = ratio e } in u) row) ≡ row
wires-of_uses ratio [] = refl
wires-of_uses ratio (e ∷ row) = ap (λ (es : List ℕ). e ∷ es) (wires-of_uses ratio row)

trees-of_zip : (ratio : ℕ → ℕ → ℕ) (trees : List (List ℕ)) (numbers : List ℕ) → length numbers ≡ length trees
    → trees_of (map (λ net. map (λ e. let u : WireUse = record { wire = e; ratio = ratio e net.1 } in
    u) net.0) (zip trees numbers)) ≡ trees
trees-of_zip ratio [] numbers paired = refl
trees-of_zip ratio (row ∷ trees) [] paired = absurd (omega (arith, paired))
trees-of_zip ratio (row ∷ trees) (number ∷ numbers) paired =
    ap (λ (es : List ℕ). es
    ∷ trees_of (map (λ net. map (λ e. let u : WireUse = record { wire = e; ratio = ratio e net.1 } in
    u) net.0) (zip trees numbers))) (wires-of_uses (λ e. ratio e number) row)
    ∙ ap (λ (rows : List (List ℕ)). row ∷ rows) (trees-of_zip ratio trees numbers (omega (arith, paired)))

-- its wires are those of the trees
pub trees-of_shared : (board : Board) (trees : List (List ℕ)) (numbers : List ℕ)
    → length numbers ≡ length trees → trees_of (shared_routing board trees numbers) ≡ trees
trees-of_shared board trees numbers paired =
    trees-of_zip (λ e number. shared_ratio board trees numbers e number) trees numbers paired

pub wires-at : (routing : Routing) (n : ℕ) → wires_of (uses_of routing n) ≡ tree_of (trees_of routing) n
wires-at [] n = refl
wires-at (uses ∷ routing) zero = refl
wires-at (uses ∷ routing) (suc n) = wires-at routing n

pub lengths-of : (routing : Routing) → sum_by length (trees_of routing) ≡ sum_by length routing
lengths-of [] = refl
lengths-of (uses ∷ routing) =
    omega (
      arith,
      sum_by-cons length (wires_of uses) (trees_of routing),
      sum_by-cons length uses routing,
      lengths-of routing,
      length-map uses (λ (u : WireUse). u.wire),
    )

module _ (board : Board) (trees : List (List ℕ)) (numbers : List ℕ) (paired : length numbers
    ≡ length trees) where
  pub shared-few : sum_by length (shared_routing board trees numbers) ≡ sum_by length trees
  shared-few = sym (lengths-of (shared_routing board trees numbers))
      ∙ ap (λ (ts : List (List ℕ)). sum_by length ts) (trees-of_shared board trees numbers paired)

-- ---- sums

-- one of the lists is no longer than all together
length-part : {A : Type 0} (rows : List (List A)) (n : ℕ) → length (get_or rows n []) ≤ sum_by length rows
length-part [] n = omega arith
length-part (row ∷ rows) zero = omega (arith, sum_by-cons length row rows)
length-part (row ∷ rows) (suc n) = omega (arith, sum_by-cons length row rows, length-part rows n)

-- the sum of a net whose ratios have 32 bits
net-sum_small : (routing : Routing) (n : ℕ)
    → All (λ uses. All (λ ratio. ratio < 2 ^ 32) (ratios_of uses)) routing → sum_by length routing ≤ most_uses
    → net_sum routing n ≤ 2 ^ 57
net-sum_small routing n small few = go (cases_lt n (length routing))
  where
    go : (n < length routing) ⊎ (length routing ≤ n) → net_sum routing n ≤ 2 ^ 57
    go (inl below) =
        omega (
          arith,
          sum_by-le (λ x. x) (2 ^ 32) (ratios_of (uses_of routing n)) (λ k d there. omega (
            arith,
            small n [] below k d there,
          )),
          length-map (uses_of routing n) (λ (u : WireUse). u.ratio),
          length-part routing n,
          few,
        )
    go (inr past) = omega (
      arith,
      ap (λ (uses : List WireUse). sum (ratios_of uses)) (get_or_past routing n [] past),
    )

-- the sum of a group is at most 2^81
pub shared-sums_small : (board : Board) (trees : List (List ℕ)) (numbers : List ℕ) → IsBoard board
    → HasRisingRows trees → length numbers ≡ length trees → sum_by length trees ≤ most_uses
    → All (λ total. total ≤ 2 ^ 87) (map (group_sum (shared_routing board trees numbers)) board.groups)
shared-sums_small board trees numbers is rising paired few =
    let routing : Routing = shared_routing board trees numbers in
    let short = shared_ratios_small board trees numbers rising paired in
    let few_uses : sum_by length routing ≤ most_uses = omega (
      arith,
      shared-few board trees numbers paired,
      few,
    ) in
    All-map (λ total. total ≤ 2 ^ 87) (group_sum routing) board.groups
    (λ g d there.
    omega (
      arith,
      sum_by-le (net_sum routing) (2 ^ 57) (get_or board.groups g d)
          (λ k n below. net-sum_small routing (get_or (get_or board.groups g d) k n) short few_uses),
      ap length (get_or_default board.groups g d [] there),
      length-part board.groups g,
      is.group_total,
    ))
