use Rattle.std.proofs.Common.{refl, arith, inl, inr, ⊎_elim}
use Rattle.tdm_problem.specs.Samples.{star, wire}
use Rattle.tdm_problem.specs.Walk.{Links}
use Rattle.steiner_build.proofs.definitions.branches_end_where_the_tree_begins.Goals as goal

down : Links star 1 2 0
down = record { wire = wire 0 2; is = refl; ends = inr (refl, refl) }

up : Links star 0 0 1
up = record { wire = wire 0 1; is = refl; ends = inl (refl, refl) }

pub returns-clause-arms : goal.returns-clause-arms
returns-clause-arms c = (
  λ same. omega (arith, same),
  (
    0,
    down,
    (λ same. omega (arith, same), (1, up, refl, λ on. on)),
    λ on. ⊎_elim (λ same. omega (arith, same)) (λ on. on.2) on,
  ),
)
