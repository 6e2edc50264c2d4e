use Rattle.std.proofs.Common.{Bool, List, []}
use Rattle.solution_eval.specs.Counted.{CountsRatios}
use Rattle.solution_eval.proofs.overfull.no_counts.Given as goal

abbrev pub invariant-loop : goal.invariant-loop
invariant-loop l = (wanted : List Bool) → CountsRatios wanted [] l.counter l.counts.items
