-- what the loops over the nets keep
use Rattle.std.proofs.Common.{◌≡◌, ◌≢◌, ℕ, ◌+◌, ◌<◌, ◌≤◌, List, [], ◌∷◌, ◌++◌, length, map, get_or, take, sym, ap, ◌∙◌, subst, refl, arith}
use Rattle.std.specs.Prelude.{All, AllPairs}
use Rattle.std.specs.List.Sorted.{IsStrictlyIncreasing}
use Rattle.std.proofs.lemmas.List.{take_more, length-map, length-take, get_or_default, get_or-map}
use Rattle.std.proofs.lemmas.List.Elements.{All-take, All-head, All-tail}
use Rattle.std.proofs.lemmas.List.Kept.{AllPairs-from_increasing}
use Rattle.tdm_problem.specs.declared.solution.WireUse.{WireUse}
use Rattle.tdm_problem.specs.Limits.{most_nets}
use Rattle.tdm_problem.specs.Board.{Board}
use Rattle.tdm_problem.specs.Routing.{wires_of}
use Rattle.tdm_problem.specs.Trees.{tree_of, AreTreesFor, HasRisingRows}
use Rattle.even_legalise.specs.Uniform.{nets_on, uniform_ratio, uniform_use, uniform_routing, CountsNets}
use Rattle.even_legalise.proofs.UniformLaws.{wires_of_uses, nets_on-le-length}
use Rattle.even_legalise.proofs.UniformIsLegal.{distinct_rows}

-- numbers that rise are distinct
pub distinct_row : (row : List ℕ) → IsStrictlyIncreasing row → AllPairs (λ d e. d ≢ e) row
distinct_row row up = λ i j d before inside. λ same.
    let below : get_or row i d < get_or row j d = AllPairs-from_increasing row up i j d before inside in
    omega arith

-- a count of some of the nets is at most the number of nets that a board may have
pub counts_small : (trees : List (List ℕ)) (n wires : ℕ) (counts : List ℕ) → HasRisingRows trees
    → CountsNets (take n trees) wires counts → All (λ count. count ≤ most_nets) counts
counts_small trees n wires counts rising counted = λ e d inside.
    let most : nets_on (take n trees) e ≤ length (take n trees) =
    nets_on-le-length e (take n trees) (All-take (λ row. AllPairs (λ x y. x ≢ y) row) n trees
    (distinct_rows trees rising)) in
    let is : get_or counts e 0 ≡ nets_on (take n trees) e = counted.each e (omega (arith, counted.whole)) in
    omega (arith, get_or_default counts e d 0 inside, length-take n trees, rising.net_limit)

-- the wires of the uses rise as those of the tree
pub rising_uses : (ratio : ℕ → ℕ) (row : List ℕ) (uses : List WireUse)
    → uses ≡ map (λ e. record { wire = e; ratio = ratio e }) row → IsStrictlyIncreasing row
    → IsStrictlyIncreasing (wires_of uses)
rising_uses ratio row uses is up = subst IsStrictlyIncreasing (sym (ap wires_of is ∙ wires_of_uses ratio row))
    up

-- the uses by the counts are the uniform uses
counted_uses : (board : Board) (trees : List (List ℕ)) (wires : ℕ) (counts row : List ℕ)
    → CountsNets trees wires counts → All (λ e. e < wires) row
    → map (λ e. record { wire = e; ratio = uniform_ratio (get_or counts e 0) 1 }) row
    ≡ map (uniform_use board trees) row
counted_uses board trees wires counts [] counted there = refl
counted_uses board trees wires counts (e ∷ row) counted there =
    let same : get_or counts e 0 ≡ nets_on trees e = counted.each e (All-head (λ x. x < wires) e row there) in
    ap (λ nets. record { wire = e; ratio = uniform_ratio nets 1 }
    ∷ map (λ x. record { wire = x; ratio = uniform_ratio (get_or counts x 0) 1 }) row) same
    ∙ ap (λ rest. uniform_use board trees e ∷ rest) (counted_uses board trees wires counts row counted
    (All-tail (λ x. x < wires) e row there))

-- one net more of the uniform routing
pub routing_more : (board : Board) (trees : List (List ℕ)) (n : ℕ) (counts row : List ℕ) (uses : List WireUse)
    → AreTreesFor board trees → CountsNets trees (length board.wires) counts → n < length trees
    → tree_of trees n ≡ row
    → uses ≡ map (λ e. record { wire = e; ratio = uniform_ratio (get_or counts e 0) 1 }) row
    → take (n + 1) (uniform_routing board trees) ≡ take n (uniform_routing board trees) ++ uses ∷ []
routing_more board trees n counts row uses for counted inside is_row is_uses =
    let there : All (λ e. e < length board.wires) row =
    subst (λ es. All (λ e. e < length board.wires) es) is_row (for.there n [] inside) in
    let next : get_or (uniform_routing board trees) n [] ≡ uses =
    get_or-map (λ wires. map (uniform_use board trees) wires) trees n [] [] inside
    ∙ (ap (map (uniform_use board trees)) is_row
    ∙ (sym (counted_uses board trees (length board.wires) counts row counted there) ∙ sym is_uses)) in
    take_more (uniform_routing board trees) n []
    (omega (arith, length-map trees (λ wires. map (uniform_use board trees) wires)))
    ∙ ap (λ u. take n (uniform_routing board trees) ++ u ∷ []) next

-- the counts at the wires of a tree are at most the number of nets that a board may have
pub row_counts_small : (board : Board) (trees : List (List ℕ)) (n : ℕ) (counts row : List ℕ)
    → AreTreesFor board trees → HasRisingRows trees → CountsNets trees (length board.wires) counts
    → n < length trees → tree_of trees n ≡ row → All (λ e. get_or counts e 0 ≤ most_nets) row
row_counts_small board trees n counts row for rising counted inside is_row = λ k d in_row.
    let there : All (λ e. e < length board.wires) row =
    subst (λ es. All (λ e. e < length board.wires) es) is_row (for.there n [] inside) in
    let most : nets_on trees (get_or row k d) ≤ length trees =
    nets_on-le-length (get_or row k d) trees (distinct_rows trees rising) in
    omega (arith, counted.each (get_or row k d) (there k d in_row), rising.net_limit)
