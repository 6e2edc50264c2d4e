use Rattle.std.proofs.Common.{ℕ, zero, suc, ◌<◌, ◌≤◌, [], ◌∷◌, None, Some, refl, arith}
use Rattle.std.specs.Prelude.{MatchOption, slice_index_or}
use Rattle.tdm_problem.specs.Distance.{IsHopCount}
use Rattle.tdm_problem.specs.Samples.{star}
use Rattle.tdm_problem.proofs.SampleBoards.{end-hops}
use Rattle.shortest_forest.specs.Reach.{HasNoWalk}
use Rattle.shortest_forest.proofs.SampleParents.{source-hops, middle-hops, no-walk}
use Rattle.shortest_forest.proofs.definitions.hops_are_least_walks.Goals as goal

hops-of : (f : ℕ) → f < 4 → MatchOption (slice_index_or (Some 1 ∷ Some 0 ∷ Some 2 ∷ Some 2 ∷ []) f None)
    (HasNoWalk star 1 f) (IsHopCount star 1 f)
hops-of zero there = middle-hops
hops-of (suc zero) there = source-hops
hops-of (suc (suc zero)) there = end-hops 1 (omega arith) (omega arith)
hops-of (suc (suc (suc zero))) there = end-hops 2 (omega arith) (omega arith)
hops-of (suc (suc (suc (suc f)))) there = absurd (omega (arith, there))

pub returns-clause-star : goal.returns-clause-star
returns-clause-star c = record { count = refl; exact = hops-of }

-- three hops are too many
pub returns-clause-other : goal.returns-clause-other
returns-clause-other c hops =
    let wrong : IsHopCount star 1 2 3 = hops.exact 2 (omega arith) in
    let right : IsHopCount star 1 2 2 = end-hops 1 (omega arith) (omega arith) in
    let short : 3 ≤ 2 = rw right.walk.2 at (wrong.least right.walk.0 right.walk.1) in
    omega (arith, short)

pub returns-clause-apart : goal.returns-clause-apart
returns-clause-apart c = no-walk
