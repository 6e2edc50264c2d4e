use Rattle.std.proofs.Common.{◌<◌, length, arith}
use Rattle.solution_eval.proofs.Reaching.{reaches_none, reaches_next}
use Rattle.solution_eval.proofs.flood.reach_all.Goals as goal

pub loop-step-init : goal.loop-step-init
loop-step-init c = reaches_none c.args.mark c.args.marks.now c.args.queue.now.items c.requires.lists

pub loop-step-preserved : goal.loop-step-preserved
loop-step-preserved c =
    let inside : c.loop-step.step-index < length c.args.steps.now = omega arith in
    reaches_next c.args.steps.now c.loop-step.step-index _ c.args.mark c.args.marks.now c.args.queue.now.items
    c.loop-step.marks c.loop-step.queue.items c.reach.new.marks c.reach.new.queue.items inside
    c.requires.there c.in_ok-reach.ensures.marks c.in_ok-reach.ensures.queue c.loop-step.invariant
