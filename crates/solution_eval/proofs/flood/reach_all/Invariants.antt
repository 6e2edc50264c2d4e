use Rattle.std.proofs.Common.{take}
use Rattle.solution_eval.specs.Flood.{Reaches}
use Rattle.solution_eval.proofs.flood.reach_all.Given as goal

abbrev pub invariant-loop-step : goal.invariant-loop-step
invariant-loop-step l = Reaches (take l.step-index l.steps) l.mark l.initial.marks l.initial.queue.items
    l.marks l.queue.items
