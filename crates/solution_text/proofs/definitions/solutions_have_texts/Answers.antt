use Rattle.std.proofs.Common.{refl}
use Rattle.std.specs.Fmt.{digits}
use Rattle.solution_text.proofs.definitions.solutions_have_texts.Goals as goal

pub returns-clause-no_use : goal.returns-clause-no_use
unfolding digits
returns-clause-no_use c = refl

pub returns-clause-shared : goal.returns-clause-shared
unfolding digits
returns-clause-shared c = refl

pub returns-clause-large : goal.returns-clause-large
unfolding digits
returns-clause-large c = refl
