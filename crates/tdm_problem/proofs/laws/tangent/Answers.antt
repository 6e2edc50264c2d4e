use Rattle.tdm_problem.proofs.Tangents.{tangent-priced}
use Rattle.tdm_problem.proofs.laws.tangent.Goals as goal

pub returns : goal.returns
returns c = tangent-priced
