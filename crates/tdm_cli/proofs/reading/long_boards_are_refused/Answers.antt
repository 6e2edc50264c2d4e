use Rattle.std.proofs.Common.{◌^◌, length}
use Rattle.tdm_cli.proofs.TextLaws.{within-limit}
use Rattle.tdm_cli.proofs.reading.long_boards_are_refused.Goals as goal

pub returns-clause-within : goal.returns-clause-within
returns-clause-within c = λ text board is. within-limit (2 ^ 28) (length text) _ _ board is
