use Rattle.tdm_problem.proofs.Exchanges.{weighted_sums-by_wires, weighted_sums-le_value}
use Rattle.tdm_problem.proofs.laws.exchange.Goals as goal

pub returns-clause-wires : goal.returns-clause-wires
returns-clause-wires c = weighted_sums-by_wires

pub returns-clause-value : goal.returns-clause-value
returns-clause-value c = weighted_sums-le_value
