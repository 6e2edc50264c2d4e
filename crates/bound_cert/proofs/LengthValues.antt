-- The distances of a forest over lengths as the values of a potential.
use Rattle.std.proofs.Common.{◌≡◌, ℕ, ◌*◌, ◌<◌, ◌≤◌, List, [], ◌∷◌, Option, length, map, refl, subst, arith}
use Rattle.std.specs.Prelude.{All, MatchOption, reverse}
use Rattle.std.proofs.Math.Nat.{mul-le-mul_right}
use Rattle.std.proofs.lemmas.List.{length-reverse}
use Rattle.std.proofs.lemmas.List.Sums.{sum_by-cons}
use Rattle.tdm_problem.specs.Board.{Board}
use Rattle.tdm_problem.specs.Distance.{length_of, IsDistance}
use Rattle.tdm_problem.specs.Walk.{IsWalk, AnyWire}
use Rattle.tdm_problem.proofs.Walks.{AnyWire-from_links, IsWalk-reverse}
use Rattle.board_graph.specs.Graph.{Graph, IsGraph, graph_of, board_of}
use Rattle.shortest_forest.specs.Reach.{Reach, HasNoWalk}
use Rattle.shortest_forest.specs.LeastForest.{IsWayUp, IsLeastForest}
use Rattle.shortest_forest.proofs.BreadthFirstLaws.{at_below}
use Rattle.bound_cert.specs.Makers.{IsSourcePotential}
use Rattle.bound_cert.proofs.HopValues.{or_zero, IsSourcePotential-from_distances, all_bounded}

-- the wires up to the root are a walk there
way_walk : (board : Board) (reach : Reach) (f : ℕ) (es : List ℕ) → IsWayUp board reach f es
    → IsWalk board (AnyWire board) f es reach.root
way_walk board reach f [] up = up
way_walk board reach f (e ∷ es) up =
    (AnyWire-from_links board e f up.1.0 up.1.1, (up.1.0, up.1.1, way_walk board reach up.1.0 es up.1.2))

-- a walk is no longer than so many of the longest wires
walk_bounded : (board : Board) (wire_length : ℕ → ℕ) (most : ℕ)
    → ((e : ℕ) → e < length board.wires → wire_length e ≤ most) → (a : ℕ) (es : List ℕ) (b : ℕ)
    → IsWalk board (AnyWire board) a es b → length_of wire_length es ≤ length es * most
walk_bounded board wire_length most short a [] b walk = omega arith
walk_bounded board wire_length most short a (e ∷ es) b walk =
    omega (
      arith,
      sum_by-cons wire_length e es,
      short e walk.0,
      walk_bounded board wire_length most short walk.1.0 es b walk.1.2,
    )

module _ (graph : Graph) (wire_length : ℕ → ℕ) (reach : Reach)
    (forest : IsLeastForest graph wire_length reach) where
  pub least_potential : (source : ℕ) → reach.root ≡ source → (board : Board) → graph ≡ graph_of board
      → IsSourcePotential board wire_length source (map or_zero reach.distances)
  least_potential source at board same =
      let has = forest.on_board board same in
      subst (λ (r : ℕ). IsSourcePotential board wire_length r (map or_zero reach.distances)) at
      (IsSourcePotential-from_distances board wire_length reach.root reach.distances has.distance_count
      has.distances)

  -- no distance is more than the longest wire for each FPGA but one
  pub least_small : IsGraph graph → (most : ℕ) → ((e : ℕ) → e < length graph.wires → wire_length e ≤ most)
      → All (λ v. v ≤ 4095 * most) (map or_zero reach.distances)
  least_small is most short =
      let board : Board = board_of graph in
      let has = forest.on_board board refl in
      let Exact : ℕ → Option ℕ → Type 0 = λ f x. MatchOption x (HasNoWalk board reach.root f)
      (IsDistance board wire_length reach.root f) in
      all_bounded reach (4095 * most)
      (λ f d at.
      let way = has.ways f d at in
      let back = IsWalk-reverse board (AnyWire board) f way.0 reach.root
      (way_walk board reach f way.0 way.1) in
      let distance : IsDistance board wire_length reach.root f d =
      subst (Exact f) at (has.distances f (omega (
        arith,
        at_below reach.distances f d at,
        has.distance_count,
      ))) in
      omega (
        arith,
        distance.least (reverse way.0) back,
        walk_bounded board wire_length most short reach.root (reverse way.0) f back,
        mul-le-mul_right most (let few : length (reverse way.0) ≤ 4095 = omega (
          arith,
          length-reverse way.0,
          way.2,
          is.fpga_limit,
        ) in few),
      ))
