use Rattle.std.proofs.Common.{sym, subst}
use Rattle.even_legalise.specs.Uniform.{JoinsEachNet}
use Rattle.even_legalise.proofs.SampleTrees.{pair_board, each_joined}
use Rattle.even_legalise.proofs.tests.three_nets_of_a_wire_have_ratio_4.Goals as goal

pub uniform_solution-requires-clause-joined : goal.uniform_solution-requires-clause-joined
uniform_solution-requires-clause-joined g c =
    subst (λ p. JoinsEachNet p c.in_ok-trees.trees) (sym c.in_ok-problem.ensures)
    (subst (λ t. JoinsEachNet pair_board t) (sym c.in_ok-trees.ensures) each_joined)
