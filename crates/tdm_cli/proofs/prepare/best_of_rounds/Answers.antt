use Rattle.tdm_cli.proofs.ImprovedLaws.{base-minimal, IsImproved-rounds}
use Rattle.tdm_cli.proofs.prepare.best_of_rounds.Goals as goal

pub improve-requires-clause-minimal : goal.improve-requires-clause-minimal
improve-requires-clause-minimal c =
    base-minimal c.args.problem.now c.in_ok-trees.ensures.board c.in_ok-trees.trees c.in_ok-trees.ensures.base

pub returns-in-Ok-clause-improved : goal.returns-in-Ok-clause-improved
returns-in-Ok-clause-improved c = IsImproved-rounds c.args.problem.now c.in_ok-trees.trees c.args.rounds
    c.in-Ok.best.solution c.in-Ok.best.value c.in-Ok.best.certified c.in_ok-trees.ensures.joined
    c.in_ok-trees.ensures.base c.in_ok-trees.ensures.few c.in-Ok.ensures.best c.in-Ok.ensures.tight
    c.in-Ok.ensures.rounds
