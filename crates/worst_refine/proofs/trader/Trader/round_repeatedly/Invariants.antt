use Rattle.worst_refine.specs.TraderRoom.{IsTraderFor}
use Rattle.worst_refine.proofs.trader.Trader.round_repeatedly.Given as goal

abbrev pub invariant-loop-k : goal.invariant-loop-k
invariant-loop-k l = IsTraderFor l.problem l.self
