-- Parent wires of the star, seen from the end of its first arm.
use Rattle.std.proofs.Common.{ℕ, suc, ◌<◌, ◌≤◌, List, [], ◌∷◌, refl, ⊎_elim, arith}
use Rattle.std.proofs.lemmas.List.Sums.{sum_by-cons}
use Rattle.tdm_problem.specs.Walk.{IsWalk, AnyWire}
use Rattle.tdm_problem.specs.Distance.{length_of, IsHopCount}
use Rattle.tdm_problem.specs.Samples.{star, split}
use Rattle.tdm_problem.proofs.Walks.{Links-sym}
use Rattle.tdm_problem.proofs.SampleBoards.{walk-stays, arm-ends, arm-links, end-hops, part-kept}
use Rattle.shortest_forest.specs.Baseline.{IsParent, IsParentChain}
use Rattle.shortest_forest.specs.Reach.{HasNoWalk}

-- a wire is a hop
pub one-hop : (e : ℕ) (es : List ℕ) → 1 ≤ length_of (λ d. 1) (e ∷ es)
one-hop e es = omega (arith, sum_by-cons (λ (d : ℕ). 1) e es)

-- the source is no hop away
pub source-hops : IsHopCount star 1 1 0
source-hops = record { walk = ([], refl, refl); least = λ es walk. omega arith }

away : (es : List ℕ) → IsWalk star (AnyWire star) 1 es 0 → 1 ≤ length_of (λ d. 1) es
away [] walk = absurd (omega (arith, walk))
away (e ∷ es) walk = one-hop e es

-- the middle is one hop away
pub middle-hops : IsHopCount star 1 0 1
middle-hops = record {
  walk =
      (0 ∷ [], (omega arith, (0, Links-sym star 0 0 1 (arm-links 0 1 (omega arith) refl), refl)), refl);
  least = away;
}

-- the first arm is the parent wire of the middle
pub middle-parent : IsParent star 1 0 0 1
middle-parent = record {
  links = arm-links 0 1 (omega arith) refl;
  nearer = (0, source-hops, middle-hops);
  least = λ d x links near. omega arith;
}

-- each other arm is the parent wire of its end
pub end-parent : (e : ℕ) → 0 < e → e < 3 → IsParent star 1 (suc e) e 0
end-parent e other there = record {
  links = Links-sym star e 0 (suc e) (arm-links e (suc e) there refl);
  nearer = (1, middle-hops, end-hops e other there);
  least = λ d x links near.
      ⊎_elim
      (λ forth. absurd (omega (arith, forth.0)))
      (λ back. omega (arith, back.1))
      (arm-ends d (suc e) x links);
}

-- nothing leads from one part of the board in two parts to the other
pub no-walk : HasNoWalk split 0 2
no-walk es walk =
    let stays = walk-stays split (AnyWire split) (λ x. x < 2)
    (λ d a b there links here. part-kept d a b links here) 0 es 2 walk (omega arith) in
    omega (arith, stays)

-- the chain of an end: its arm, and the first
pub end-chain : (e : ℕ) → 0 < e → e < 3 → IsParentChain star 1 (suc e) (e ∷ 0 ∷ []) 1
end-chain e other there = (0, end-parent e other there, (1, middle-parent, refl))
