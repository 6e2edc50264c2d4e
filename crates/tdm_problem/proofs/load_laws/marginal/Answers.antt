use Rattle.tdm_problem.proofs.LoadLaws.{load_cost-moved, load_cost-exchanged}
use Rattle.tdm_problem.proofs.load_laws.marginal.Goals as goal

pub returns-clause-cost : goal.returns-clause-cost
returns-clause-cost c = load_cost-moved

pub returns-clause-moved : goal.returns-clause-moved
returns-clause-moved c = load_cost-exchanged
