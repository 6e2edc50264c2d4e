use Rattle.std.proofs.Common.{ℕ, zero, suc, ◌<◌, List, [], ◌∷◌, refl, sym, subst, arith}
use Rattle.std.specs.Prelude.{Contains}
use Rattle.std.specs.List.Sorted.{IsStrictlyIncreasing}
use Rattle.tdm_problem.specs.Samples.{star, split}
use Rattle.tdm_problem.proofs.Walks.{AnyWire-from_links}
use Rattle.tdm_problem.proofs.SampleBoards.{two-ends-joined}
use Rattle.shortest_forest.specs.Baseline.{IsParentChain, IsOnChain}
use Rattle.shortest_forest.proofs.BaselineLaws.{base-tree-minimal}
use Rattle.shortest_forest.proofs.SampleParents.{no-walk, end-chain}
use Rattle.shortest_forest.proofs.definitions.a_baseline_tree_is_the_union_of_parent_chains.Goals as goal

-- ---- the star

arms-rise : IsStrictlyIncreasing (0 ∷ 1 ∷ 2 ∷ [])
arms-rise zero there = omega arith
arms-rise (suc zero) there = omega arith
arms-rise (suc (suc k)) there = absurd (omega (arith, there))

chain-of : (t : ℕ) → Contains (1 ∷ 2 ∷ 3 ∷ []) t → (es : List ℕ) × IsParentChain star 1 t es 1
chain-of t (zero, there, is) = ([], sym is)
chain-of t (suc zero, there, is) = (
  1 ∷ 0 ∷ [],
  subst (λ t. IsParentChain star 1 t (1 ∷ 0 ∷ []) 1) is
      (end-chain 1 (omega arith) (omega arith)),
)
chain-of t (suc (suc zero), there, is) = (
  2 ∷ 0 ∷ [],
  subst (λ t. IsParentChain star 1 t (2 ∷ 0 ∷ []) 1) is
      (end-chain 2 (omega arith) (omega arith)),
)
chain-of t (suc (suc (suc k)), there, is) = absurd (omega (arith, there))

arm-on : (e : ℕ) → Contains (0 ∷ 1 ∷ 2 ∷ []) e → IsOnChain star 1 (1 ∷ 2 ∷ 3 ∷ []) e
arm-on e (zero, there, is) = (
  2,
  (1, omega arith, refl),
  (
    1 ∷ 0 ∷ [],
    end-chain 1 (omega arith) (omega arith),
    (1, omega arith, is),
  ),
)
arm-on e (suc zero, there, is) =
    (2, (1, omega arith, refl), (1 ∷ 0 ∷ [], end-chain 1 (omega arith) (omega arith), (0, omega arith, is)))
arm-on e (suc (suc zero), there, is) =
    (3, (2, omega arith, refl), (2 ∷ 0 ∷ [], end-chain 2 (omega arith) (omega arith), (0, omega arith, is)))
arm-on e (suc (suc (suc k)), there, is) = absurd (omega (arith, there))

-- a wire of a chain is one of the arms
on-arms : (v e : ℕ) (es : List ℕ) → IsParentChain star 1 v es 1 → Contains es e → e < 3
on-arms v e [] chain there = absurd (omega (arith, there.1))
on-arms v e (d ∷ es) chain (zero, there, is) =
    omega (arith, is, AnyWire-from_links star d v chain.0 chain.1.links)
on-arms v e (d ∷ es) chain (suc k, there, is) = on-arms chain.0 e es chain.2 (k, omega (arith, there), is)

is-arm : (e : ℕ) → e < 3 → Contains (0 ∷ 1 ∷ 2 ∷ []) e
is-arm zero there = (0, omega arith, refl)
is-arm (suc zero) there = (1, omega arith, refl)
is-arm (suc (suc zero)) there = (2, omega arith, refl)
is-arm (suc (suc (suc e))) there = absurd (omega (arith, there))

pub returns-clause-star : goal.returns-clause-star
returns-clause-star c = record {
  rising = arms-rise;
  reached = chain-of;
  exact = λ e. (arm-on e, λ on. is-arm e (on-arms on.0 e on.2.0 on.2.1 on.2.2));
}

pub returns-clause-spare : goal.returns-clause-spare
returns-clause-spare c tree =
    (base-tree-minimal star 1 (1 ∷ 2 ∷ []) (0 ∷ 1 ∷ 2 ∷ []) (0, omega arith, refl) tree).needs 2 (
      2,
      omega arith,
      refl,
    ) two-ends-joined

-- ---- the board in two parts

-- no chain leads from one part to the other
no-chain : (es : List ℕ) → IsParentChain split 0 2 es 0 → ⊥
no-chain [] chain = omega (arith, chain)
no-chain (e ∷ es) chain = let walk = chain.1.nearer.2.walk in no-walk walk.0 walk.1

pub returns-clause-split : goal.returns-clause-split
returns-clause-split c = λ wires tree. let chain = tree.reached 2 (1, omega arith, refl) in
    no-chain chain.0 chain.1
