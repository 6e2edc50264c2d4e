use Rattle.even_legalise.proofs.SharesFit.{share_law}
use Rattle.even_legalise.proofs.laws.shares_fit.Goals as goal

pub returns : goal.returns
returns c = share_law
