use Rattle.std.proofs.Common.{sym, subst}
use Rattle.even_legalise.specs.Uniform.{JoinsEachNet}
use Rattle.even_legalise.proofs.SampleTrees.{pair_board, each_joined}
use Rattle.even_legalise.proofs.tests.three_nets_of_one_number_share_with_ratio_4.Goals as goal

pub legalise-requires-clause-joined : goal.legalise-requires-clause-joined
legalise-requires-clause-joined g c =
    subst (λ p. JoinsEachNet p c.in_ok-trees.trees) (sym c.in_ok-problem.ensures)
    (subst (λ t. JoinsEachNet pair_board t) (sym c.in_ok-trees.ensures) each_joined)
