use Rattle.worst_refine.specs.TraderRoom.{IsTraderFor}
use Rattle.worst_refine.proofs.trader.Trader.take_turns.Given as goal

abbrev pub invariant-loop-turn : goal.invariant-loop-turn
invariant-loop-turn l = IsTraderFor l.problem l.self
