use Rattle.std.proofs.Common.{◌<◌, [], ◌∷◌, ◌++◌, length, subst, sym, ap, ◌∙◌, arith}
use Rattle.solution_eval.specs.declared.flood.Step.{Step}
use Rattle.solution_eval.specs.Steps.{AreSteps}
use Rattle.solution_eval.proofs.Along.{along_none, along_next}
use Rattle.solution_eval.proofs.steps.collect_steps.Goals as goal

pub loop-wire_use-init : goal.loop-wire_use-init
loop-wire_use-init c = subst (λ steps. AreSteps c.args.problem.now [] steps) (sym c.clear.ensures.items)
    (along_none c.args.problem.now)

pub loop-wire_use-preserved : goal.loop-wire_use-preserved
loop-wire_use-preserved c =
    let inside : c.loop-wire_use.wire_use-index < length c.args.uses.now = omega arith in
    let back : Step = record { from = c.wire-wire.result.b; to = c.wire-wire.result.a } in
    along_next c.args.problem.now c.args.uses.now c.loop-wire_use.wire_use-index _ c.loop-wire_use.steps.items
    c.push-in-loop-wire_use.new.self.items c.wire-wire.result inside c.wire-wire.ensures.there
    c.wire-wire.ensures.joins
    (c.in_ok-push-2.ensures.items ∙ ap (λ steps. steps ++ back ∷ []) c.in_ok-push.ensures.items)
    c.loop-wire_use.invariant
