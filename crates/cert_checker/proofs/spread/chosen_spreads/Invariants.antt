use Rattle.cert_checker.proofs.SpreadLists.{AreSpreadsUpTo}
use Rattle.cert_checker.proofs.spread.chosen_spreads.Given as goal

abbrev pub invariant-loop-n : goal.invariant-loop-n
invariant-loop-n l = AreSpreadsUpTo l.problem l.cert l.n l.spreads.items
