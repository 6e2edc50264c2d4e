use Rattle.std.proofs.Common.{arith}
use Rattle.tdm_cli.proofs.BestLaws.{IsBest-certified}
use Rattle.tdm_cli.proofs.best.keep_greater.Goals as goal

pub returns-clause-best : goal.returns-clause-best
returns-clause-best c board is best =
    IsBest-certified board c.args.best.now.solution c.args.best.now.value c.args.best.now.certified
    c.args.certified best (omega (arith, c.if-certified-best.false)) is
