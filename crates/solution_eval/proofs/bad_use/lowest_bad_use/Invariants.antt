use Rattle.std.proofs.Common.{take}
use Rattle.std.specs.Prelude.{All}
use Rattle.tdm_problem.specs.declared.solution.WireUse.{WireUse}
use Rattle.tdm_problem.specs.Legal.{IsEvenRatio}
use Rattle.solution_eval.proofs.bad_use.lowest_bad_use.Given as goal

abbrev pub invariant-loop-wire_use : goal.invariant-loop-wire_use
invariant-loop-wire_use l = All (λ (u : WireUse). IsEvenRatio u.ratio) (take l.wire_use-index l.uses)
