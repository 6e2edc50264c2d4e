-- the uniform routing of joining trees is legal
use Rattle.std.proofs.Common.{◌≡◌, ◌≢◌, ℕ, zero, suc, ◌^◌, ◌<◌, ◌≤◌, List, length, map, get_or, sym, ◌∙◌, subst, ap, arith}
use Rattle.std.specs.Prelude.{All, AllPairs, Contains, replicate}
use Rattle.std.proofs.lemmas.List.{length-map}
use Rattle.std.proofs.lemmas.List.Elements.{All-map, All-weaker}
use Rattle.std.proofs.lemmas.List.Kept.{AllPairs-from_increasing}
use Rattle.std.specs.List.Sorted.{IsStrictlyIncreasing}
use Rattle.tdm_problem.specs.Board.{Board}
use Rattle.tdm_problem.specs.Routing.{uses_of, wires_of, ratios_of, IsFor, HasRisingWires}
use Rattle.tdm_problem.specs.Trees.{tree_of, AreTreesFor, HasRisingRows}
use Rattle.tdm_problem.specs.Walk.{Joins}
use Rattle.tdm_problem.specs.Fit.{FitsLanes}
use Rattle.tdm_problem.proofs.Fits.{FitsLanes-replicate}
use Rattle.tdm_problem.specs.Legal.{IsEvenRatio, IsLegal, terminals_of}
use Rattle.even_legalise.specs.Uniform.{nets_on, uniform_ratio, uniform_use, uniform_routing, JoinsEachNet}
use Rattle.even_legalise.proofs.UniformLaws.{uses_of_map, wires_of_uniform, ratios_on_uses, nets_on_used, nets_on-le-length, uniform_ratio_even}

-- numbers that rise are distinct
pub distinct_rows : (trees : List (List ℕ)) → HasRisingRows trees
    → All (λ wires. AllPairs (λ d e. d ≢ e) wires) trees
distinct_rows trees rising =
    All-weaker IsStrictlyIncreasing (λ wires. AllPairs (λ d e. d ≢ e) wires)
    (λ wires up. λ i j d before inside. λ same. let below : get_or wires i d < get_or wires j d =
    AllPairs-from_increasing wires up i j d before inside in omega arith)
    trees rising.rising

pub uniform_is_for : (board : Board) (trees : List (List ℕ)) → AreTreesFor board trees → HasRisingRows trees
    → IsFor board (uniform_routing board trees)
uniform_is_for board trees for rising = record {
  nets = length-map trees (λ wires. map (uniform_use board trees) wires) ∙ for.nets;
  there = All-map (λ uses. All (λ u. u.wire < length board.wires) uses)
      (λ wires. map (uniform_use board trees) wires) trees
      (λ n none inside. All-map (λ u. u.wire < length board.wires) (uniform_use board trees)
      (get_or trees n none) (for.there n none inside));
  distinct = All-map (λ uses. AllPairs (λ d e. d ≢ e) (wires_of uses))
      (λ wires. map (uniform_use board trees) wires) trees
      (λ n none inside. subst (λ wires. AllPairs (λ d e. d ≢ e) wires)
      (sym (wires_of_uniform board trees (get_or trees n none)))
      (distinct_rows trees rising n none inside));
}

-- wires rise in the uniform routing as in the trees
pub uniform_wires_rise : (board : Board) (trees : List (List ℕ)) → HasRisingRows trees
    → HasRisingWires (uniform_routing board trees)
uniform_wires_rise board trees rising = record {
  net_limit = omega (
    arith,
    length-map trees (λ wires. map (uniform_use board trees) wires),
    rising.net_limit,
  );
  rising = All-map (λ uses. IsStrictlyIncreasing (wires_of uses))
      (λ wires. map (uniform_use board trees) wires) trees
      (λ n none inside. subst IsStrictlyIncreasing (sym (wires_of_uniform board trees (get_or trees n none)))
      (rising.rising n none inside));
}

-- what holds of each wire's ratio holds of each ratio of the routing
each_ratio : (P : ℕ → Type 0) (board : Board) (trees : List (List ℕ))
    → ((n k : ℕ) (none : List ℕ) (d : ℕ) → n < length trees → k < length (get_or trees n none)
    → P (uniform_ratio (nets_on trees (get_or (get_or trees n none) k d)) 1))
    → All (λ uses. All P (ratios_of uses)) (uniform_routing board trees)
each_ratio P board trees holds =
    All-map (λ uses. All P (ratios_of uses)) (λ wires. map (uniform_use board trees) wires) trees
    (λ n none in_trees. All-map P (λ u. u.ratio) (map (uniform_use board trees) (get_or trees n none))
    (All-map (λ u. P u.ratio) (uniform_use board trees) (get_or trees n none)
    (λ k d in_row. holds n k none d in_trees in_row)))

pub uniform_ratios_small : (board : Board) (trees : List (List ℕ)) → HasRisingRows trees
    → All (λ uses. All (λ ratio. ratio < 2 ^ 32) (ratios_of uses)) (uniform_routing board trees)
uniform_ratios_small board trees rising =
    each_ratio (λ ratio. ratio < 2 ^ 32) board trees
    (λ n k none d in_trees in_row.
    let most : nets_on trees (get_or (get_or trees n none) k d) ≤ length trees =
    nets_on-le-length (get_or (get_or trees n none) k d) trees (distinct_rows trees rising) in
    omega (arith, rising.net_limit))

-- no more nets than the ratio says fit one lane
uniform_ratios_fit : (nets : ℕ) → FitsLanes (replicate nets (uniform_ratio nets 1)) 1
uniform_ratios_fit zero = omega arith
uniform_ratios_fit (suc nets) = FitsLanes-replicate (suc nets) (uniform_ratio (suc nets) 1) (omega arith)
    (omega arith)

pub uniform_is_legal : (board : Board) (trees : List (List ℕ)) → AreTreesFor board trees → HasRisingRows trees
    → JoinsEachNet board trees → IsLegal board (uniform_routing board trees)
uniform_is_legal board trees for rising joined = record {
  is_for = uniform_is_for board trees for rising;
  joined = λ n inside.
      let same : wires_of (uses_of (uniform_routing board trees) n) ≡ tree_of trees n =
      ap wires_of (uses_of_map (uniform_use board trees) trees n)
      ∙ wires_of_uniform board trees (tree_of trees n) in
      subst (λ wires. Joins board (Contains wires) (terminals_of board n)) (sym same) (joined n inside);
  even = each_ratio IsEvenRatio board trees
      (λ n k none d in_trees in_row. uniform_ratio_even (nets_on trees (get_or (get_or trees n none) k d)) 1
      (nets_on_used trees n k none d in_trees in_row) (omega arith));
  fits = λ e inside.
      subst (λ ratios. FitsLanes ratios 1)
      (sym (ratios_on_uses (λ x. uniform_ratio (nets_on trees x) 1) e trees))
      (uniform_ratios_fit (nets_on trees e));
}
