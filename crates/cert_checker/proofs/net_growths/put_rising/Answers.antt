use Rattle.std.proofs.Common.{rules}
use Rattle.cert_checker.proofs.NetGrowthLaws.{rising-sorted}
use Rattle.cert_checker.proofs.net_growths.put_rising.Goals as goal

pub returns-clause-rising : goal.returns-clause-rising
returns-clause-rising c = rising-sorted c.args.fpgas.now c.sort_unstable.new.self.items c.requires.distinct
    (search rules) c.sort_unstable.ensures.sorted
