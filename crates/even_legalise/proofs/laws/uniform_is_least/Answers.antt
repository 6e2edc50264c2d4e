use Rattle.even_legalise.proofs.EqualRatios.{uniform-least}
use Rattle.even_legalise.proofs.UniformLaws.{uniform_ratio_even}
use Rattle.even_legalise.proofs.laws.uniform_is_least.Goals as goal

pub returns-clause-even : goal.returns-clause-even
returns-clause-even c = uniform_ratio_even

pub returns-clause-least : goal.returns-clause-least
returns-clause-least c = uniform-least
