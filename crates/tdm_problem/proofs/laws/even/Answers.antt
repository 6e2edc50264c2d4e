use Rattle.tdm_problem.proofs.Evens.{value_of-legal_even}
use Rattle.tdm_problem.proofs.laws.even.Goals as goal

pub returns : goal.returns
returns c = value_of-legal_even
