use Rattle.std.proofs.Common.{List, ℕ, subst, sym}
use Rattle.tdm_problem.specs.Trees.{AreTreesFor}
use Rattle.even_legalise.specs.Uniform.{JoinsEachNet}
use Rattle.worst_refine.proofs.Proposals.{trees_for_legal, trees_join}
use Rattle.worst_refine.proofs.trading.trade.Goals as goal

pub better-requires-clause-trees_for : goal.better-requires-clause-trees_for
better-requires-clause-trees_for c =
    subst (λ (ts : List (List ℕ)). AreTreesFor c.args.problem.now ts) (sym c.in_ok-trees.ensures)
    (trees_for_legal c.args.problem.now c.args.solution.now c.requires.legal)

pub better-requires-clause-joined : goal.better-requires-clause-joined
better-requires-clause-joined c =
    subst (λ (ts : List (List ℕ)). JoinsEachNet c.args.problem.now ts) (sym c.in_ok-trees.ensures)
    (trees_join c.args.problem.now c.args.solution.now c.requires.legal)
