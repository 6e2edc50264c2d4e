-- The distances of a forest as the values of a potential.
use Rattle.std.proofs.Common.{◌≡◌, ℕ, ◌<◌, ◌≤◌, Option, Some, None, List, length, get_or, map, refl, sym, ◌∙◌, subst, inl, inr, arith}
use Rattle.std.specs.Prelude.{All, MatchOption}
use Rattle.std.specs.Option.{unwrap_or}
use Rattle.std.proofs.lemmas.List.{get_or-map, length-map, get_or_default}
use Rattle.std.proofs.lemmas.List.Elements.{All-map}
use Rattle.tdm_problem.specs.Board.{Board}
use Rattle.tdm_problem.specs.Distance.{IsDistance}
use Rattle.tdm_problem.specs.Limits.{most_fpgas}
use Rattle.board_graph.specs.Graph.{Graph, IsGraph, graph_of, board_of}
use Rattle.shortest_forest.specs.Reach.{Reach, HasNoWalk, HasHops, IsHopForest, distance_of}
use Rattle.shortest_forest.proofs.HopLaws.{hops_at}
use Rattle.bound_cert.specs.Makers.{IsSourceValue, IsSourcePotential}
use Rattle.bound_cert.proofs.ChainLaws.{chain_short}

-- a distance, or 0 where there is none
abbrev pub or_zero : Option ℕ → ℕ
or_zero x = unwrap_or x 0

value_of : (board : Board) (wire_length : ℕ → ℕ) (source f : ℕ) (x : Option ℕ)
    → MatchOption x (HasNoWalk board source f) (IsDistance board wire_length source f)
    → IsSourceValue board wire_length source f (or_zero x)
value_of board wire_length source f None none = inr (none, refl)
value_of board wire_length source f (Some d) distance = inl distance

-- distances from a source are a potential
pub IsSourcePotential-from_distances : (board : Board) (wire_length : ℕ
    → ℕ) (source : ℕ) (distances : List (Option ℕ)) → length distances ≡ board.fpgas
    → ((f : ℕ) → f < board.fpgas → MatchOption (get_or distances f None) (HasNoWalk board source f)
    (IsDistance board wire_length source f))
    → IsSourcePotential board wire_length source (map or_zero distances)
IsSourcePotential-from_distances board wire_length source distances count exact = record {
  count = length-map distances or_zero ∙ count;
  values = λ f below.
      subst (λ (v : ℕ). IsSourceValue board wire_length source f v)
      (sym (get_or-map or_zero distances f None 0 (omega (arith, below, count))))
      (value_of board wire_length source f (get_or distances f None) (exact f below));
}

-- each distance that there is has a bound
bounded : (x : Option ℕ) (most : ℕ) → ((d : ℕ) → x ≡ Some d → d ≤ most) → or_zero x ≤ most
bounded None most bound = omega arith
bounded (Some d) most bound = bound d refl

pub all_bounded : (reach : Reach) (most : ℕ) → ((f d : ℕ) → distance_of reach f ≡ Some d → d ≤ most)
    → All (λ v. v ≤ most) (map or_zero reach.distances)
all_bounded reach most bound =
    All-map (λ v. v ≤ most) or_zero reach.distances
    (λ f e below.
    subst (λ (x : Option ℕ). or_zero x ≤ most) (get_or_default reach.distances f None e below)
    (bounded (distance_of reach f) most (bound f)))

module _ (graph : Graph) (reach : Reach) (is : IsGraph graph) (forest : IsHopForest graph reach) where
  -- no distance is more than the number of FPGAs
  pub all_small : All (λ v. v ≤ most_fpgas) (map or_zero reach.distances)
  all_small =
      let has = forest.on_board (board_of graph) refl in
      all_bounded reach most_fpgas (λ f d at. omega (arith, (has.chains f d at).3, is.fpga_limit))

  -- nor than the number of wires
  pub all_short : All (λ v. v ≤ length graph.wires) (map or_zero reach.distances)
  all_short =
      let has = forest.on_board (board_of graph) refl in
      all_bounded reach (length graph.wires)
      (λ f d at.
      let chain = has.chains f d at in
      let hops = hops_at (board_of graph) reach.root reach.distances has.distances f d at in
      omega (arith, chain_short (board_of graph) reach.root f d chain.0 hops chain.1, chain.2))

  pub all_hops : (source : ℕ) → reach.root ≡ source → (board : Board) → graph ≡ graph_of board
      → IsSourcePotential board (λ _. 1) source (map or_zero reach.distances)
  all_hops source at board same =
      subst (λ (r : ℕ). IsSourcePotential board (λ _. 1) r (map or_zero reach.distances)) at
      (from_hops (forest.on_board board same))
    where
      from_hops : HasHops board reach
          → IsSourcePotential board (λ _. 1) reach.root (map or_zero reach.distances)
      from_hops has = IsSourcePotential-from_distances board (λ _. 1) reach.root reach.distances
          has.distances.count has.distances.exact
