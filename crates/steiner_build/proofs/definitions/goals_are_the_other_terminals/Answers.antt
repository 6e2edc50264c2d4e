use Rattle.std.proofs.Common.{refl}
use Rattle.steiner_build.proofs.definitions.goals_are_the_other_terminals.Goals as goal

pub returns-clause-start : goal.returns-clause-start
returns-clause-start c others = ((others 1).0 refl).1 refl
