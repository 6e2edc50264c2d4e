use Rattle.std.proofs.Common.{take}
use Rattle.tdm_problem.specs.Routing.{wires_of}
use Rattle.solution_eval.specs.Steps.{AreSteps}
use Rattle.solution_eval.proofs.steps.collect_steps.Given as goal

abbrev pub invariant-loop-wire_use : goal.invariant-loop-wire_use
invariant-loop-wire_use l = AreSteps l.problem (wires_of (take l.wire_use-index l.uses)) l.steps.items
