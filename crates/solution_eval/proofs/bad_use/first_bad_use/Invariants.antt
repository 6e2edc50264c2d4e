use Rattle.solution_eval.specs.Violations.{HasEvenRatios, AllBelow}
use Rattle.solution_eval.proofs.bad_use.first_bad_use.Given as goal

abbrev pub invariant-loop-n : goal.invariant-loop-n
invariant-loop-n l = AllBelow (HasEvenRatios l.solution) l.n
