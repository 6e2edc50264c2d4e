use Rattle.std.proofs.Common.{arith, ◌/◌}
use Rattle.integer_root.proofs.Means.{mean_not_below_root}
use Rattle.integer_root.proofs.mean_with_quotient.Goals as goal

pub returns-clause-not_below_root : goal.returns-clause-not_below_root
returns-clause-not_below_root c =
    mean_not_below_root c.args.n c.args.guess (c.args.n / c.args.guess) _ (omega arith) (omega arith)
