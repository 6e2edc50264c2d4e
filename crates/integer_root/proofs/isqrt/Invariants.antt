use Rattle.integer_root.proofs.Guesses.{AreGuesses}
use Rattle.integer_root.proofs.isqrt.Given as goal

abbrev pub invariant-loop-closer : goal.invariant-loop-closer
invariant-loop-closer l = AreGuesses l.n l.guess l.closer

abbrev pub decreases-loop-closer : goal.decreases-loop-closer
decreases-loop-closer l = l.guess
