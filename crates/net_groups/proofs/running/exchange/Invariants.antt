use Rattle.net_groups.proofs.KeptSums.{IsExchanged}
use Rattle.net_groups.proofs.running.exchange.Given as goal

abbrev pub invariant-loop-g : goal.invariant-loop-g
invariant-loop-g l = IsExchanged l.off l.on l.groups l.g-index l.fn.sums l.sums
