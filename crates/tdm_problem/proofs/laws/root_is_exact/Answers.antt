use Rattle.tdm_problem.proofs.Roots.{root_of-exact}
use Rattle.tdm_problem.proofs.laws.root_is_exact.Goals as goal

pub returns : goal.returns
returns c = root_of-exact
