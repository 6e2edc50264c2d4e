use Rattle.recip_sum.proofs.Turns.{HaveTakenDigits}
use Rattle.recip_sum.proofs.long_division.take_digits.Given as goal

abbrev pub invariant-loop-term : goal.invariant-loop-term
invariant-loop-term g l = HaveTakenDigits l.fn.terms l.terms l.term-index l.sum l.fn.steps l.steps
