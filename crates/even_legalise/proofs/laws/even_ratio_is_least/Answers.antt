use Rattle.even_legalise.proofs.Evens.{even_ratio-is_least}
use Rattle.even_legalise.proofs.laws.even_ratio_is_least.Goals as goal

pub returns : goal.returns
returns c = even_ratio-is_least
