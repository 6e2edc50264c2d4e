use Rattle.std.proofs.Common.{sym, subst}
use Rattle.even_legalise.specs.Uniform.{JoinsEachNet}
use Rattle.even_legalise.proofs.SampleTrees.{pair_board, each_joined}
use Rattle.worst_refine.proofs.trade_tests.a_trade_from_numbers_is_below_the_best_or_nothing.Goals as goal

pub value_from-requires-clause-joined : goal.value_from-requires-clause-joined
value_from-requires-clause-joined g c =
    subst (λ p. JoinsEachNet p c.in_ok-trees.trees) (sym c.in_ok-problem.ensures)
    (subst (λ t. JoinsEachNet pair_board t) (sym c.in_ok-trees.ensures) each_joined)

pub value_from-requires-2-clause-joined : goal.value_from-requires-2-clause-joined
value_from-requires-2-clause-joined g c =
    subst (λ p. JoinsEachNet p c.in_ok-trees.trees) (sym c.in_ok-problem.ensures)
    (subst (λ t. JoinsEachNet pair_board t) (sym c.in_ok-trees.ensures) each_joined)
