use Rattle.std.proofs.Common.{arith}
use Rattle.net_groups.proofs.KeptSums.{exchanged_more}
use Rattle.net_groups.proofs.running.exchange.Goals as goal

pub loop-g-preserved : goal.loop-g-preserved
loop-g-preserved c =
    exchanged_more c.args.off c.args.on c.args.groups.now c.loop-g.g-index c.args.sums.now c.loop-g.sums
    _ c.requires.distinct c.loop-g-test.true
    (c.requires.there c.loop-g.g-index 0 c.loop-g-test.true) (omega (arith, c.if-sum-off.false))
    c.loop-g.invariant
