-- A chain of parent wires has each wire once, so it is no longer than the board has wires.
use Rattle.std.proofs.Common.{◌≡◌, ◌≢◌, ℕ, ◌+◌, ◌<◌, ◌≤◌, ◌⊎◌, List, [], ◌∷◌, length, sym, subst, inl, inr, arith}
use Rattle.std.specs.Prelude.{All, AllPairs}
use Rattle.std.proofs.lemmas.List.Elements.{All-cons, All-weaker}
use Rattle.std.proofs.lemmas.List.Kept.{AllPairs-cons}
use Rattle.tdm_problem.specs.Board.{Board}
use Rattle.tdm_problem.specs.Walk.{Links}
use Rattle.tdm_problem.specs.Distance.{IsHopCount}
use Rattle.tdm_problem.proofs.Walks.{AnyWire-from_links}
use Rattle.shortest_forest.specs.Baseline.{IsParent, IsParentChain}
use Rattle.shortest_forest.proofs.BaselineLaws.{ends-same}
use Rattle.shortest_forest.proofs.HopLaws.{hops_unique}
use Rattle.bound_cert.proofs.Distinct.{length_of_distinct}

module _ (board : Board) (source : ℕ) where
  -- wire e leads from an FPGA at fewer than so many hops to one that is one hop farther
  record IsStepBelow (limit e : ℕ) : Type 0 where
    far : ℕ
    near : ℕ
    hops : ℕ
    below : hops < limit
    links : Links board e far near
    at_near : IsHopCount board source near hops
    at_far : IsHopCount board source far (hops + 1)

  raised : (low high : ℕ) → low ≤ high → (e : ℕ) → IsStepBelow low e → IsStepBelow high e
  raised low high more e step = record {
    far = step.far;
    near = step.near;
    hops = step.hops;
    below = omega (arith, step.below);
    links = step.links;
    at_near = step.at_near;
    at_far = step.at_far;
  }

  -- a step below the limit is over another wire than the step from the limit
  other_wire : (v u e d hops : ℕ) → Links board e v u → IsHopCount board source u hops
      → IsHopCount board source v (hops + 1) → IsStepBelow hops d → e ≢ d
  other_wire v u e d hops links at_u at_v step same =
      go (ends-same board e v u step.far step.near links (subst (λ (w : ℕ). Links board w step.far step.near)
      (sym same) step.links))
    where
      go : ((v ≡ step.far) × (u ≡ step.near)) ⊎ ((v ≡ step.near) × (u ≡ step.far)) → ⊥
      go (inl ends) =
          let at : IsHopCount board source u step.hops =
          subst (λ (x : ℕ). IsHopCount board source x step.hops) (sym ends.1) step.at_near in
          omega (arith, hops_unique board source u hops step.hops at_u at, step.below)
      go (inr ends) =
          let at : IsHopCount board source v step.hops =
          subst (λ (x : ℕ). IsHopCount board source x step.hops) (sym ends.0) step.at_near in
          omega (arith, hops_unique board source v (hops + 1) step.hops at_v at, step.below)

  record IsChainOf (limit : ℕ) (es : List ℕ) : Type 0 where
    steps : All (IsStepBelow limit) es
    distinct : AllPairs (λ x y. x ≢ y) es
    there : All (λ e. e < length board.wires) es

  chain_of : (v d : ℕ) (es : List ℕ) → IsHopCount board source v d → IsParentChain board source v es source
      → IsChainOf d es
  chain_of v d [] at chain = record {
    steps = λ k e below. absurd (omega arith);
    distinct =
        λ i j e before below. absurd (omega arith);
    there = λ k e below. absurd (omega arith);
  }
  chain_of v d (e ∷ es) at chain = made (chain_of u hops es at_u chain.2)
    where
      u : ℕ
      u = chain.0

      parent : IsParent board source v e u
      parent = chain.1

      hops : ℕ
      hops = parent.nearer.0

      at_u : IsHopCount board source u hops
      at_u = parent.nearer.1

      at_v : IsHopCount board source v (hops + 1)
      at_v = parent.nearer.2

      made : IsChainOf hops es → IsChainOf d (e ∷ es)
      made rest =
          let top : hops + 1 ≡ d = hops_unique board source v (hops + 1) d at_v at in
          record {
            steps = All-cons (IsStepBelow d) e es
                (record {
                  far = v;
                  near = u;
                  hops = hops;
                  below = omega arith;
                  links = parent.links;
                  at_near = at_u;
                  at_far = at_v;
                })
                (All-weaker (IsStepBelow hops) (IsStepBelow d) (raised hops d (omega arith)) es rest.steps);
            distinct = AllPairs-cons (λ (x y : ℕ). x ≢ y) e es
                (All-weaker (IsStepBelow hops) (λ w. e ≢ w)
                (λ w step. other_wire v u e w hops parent.links at_u at_v step) es rest.steps)
                rest.distinct;
            there = All-cons (λ w. w < length board.wires) e es (AnyWire-from_links board e v u parent.links)
                rest.there;
          }

  -- a parent chain is no longer than the board has wires
  pub chain_short : (v d : ℕ) (es : List ℕ) → IsHopCount board source v d
      → IsParentChain board source v es source → length es ≤ length board.wires
  chain_short v d es at chain =
      let made = chain_of v d es at chain in
      length_of_distinct es (length board.wires) made.distinct made.there
