use Rattle.solution_text.proofs.Size.{length-solution_text, never_too_long}
use Rattle.solution_text.proofs.laws.text_is_short.Goals as goal

pub returns-clause-bytes : goal.returns-clause-bytes
returns-clause-bytes c = length-solution_text

pub returns-clause-enough : goal.returns-clause-enough
returns-clause-enough c = never_too_long
