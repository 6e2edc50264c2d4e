use Rattle.std.proofs.Common.{◌^◌, length}
use Rattle.tdm_cli.proofs.TextLaws.{within-limit}
use Rattle.tdm_cli.proofs.reading.long_solutions_are_refused.Goals as goal

pub returns-clause-within : goal.returns-clause-within
returns-clause-within c = λ board text routing is. within-limit (2 ^ 30) (length text) _ _ routing is
