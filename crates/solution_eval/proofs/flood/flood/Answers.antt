use Rattle.std.proofs.Common.{◌<◌, length, arith}
use Rattle.solution_eval.proofs.Flooding.{flooding_start, flooding_next, flood_closed, row_there}
use Rattle.solution_eval.proofs.flood.flood.Goals as goal

pub reach_all-requires-clause-there : goal.reach_all-requires-clause-there
reach_all-requires-clause-there c =
    row_there c.args.steps.now c.steps_from.result.now c.index-fpga.result.now (length c.args.marks.now)
    (length c.loop-next.marks) c.steps_from.ensures c.loop-next.invariant.same_size c.requires.there

pub loop-next-init : goal.loop-next-init
loop-next-init c = flooding_start c.args.steps.now c.args.mark c.args.marks.now c.args.queue.now.items
    c.requires.one c.requires.lists

pub loop-next-preserved : goal.loop-next-preserved
loop-next-preserved c =
    let inside : c.loop-next.next < length c.loop-next.queue.items = omega arith in
    flooding_next c.args.steps.now c.steps_from.result.now c.args.mark _ _ c.loop-next.next
    c.index-fpga.result.now c.loop-next.marks c.loop-next.queue.items c.reach_all.new.marks
    c.reach_all.new.queue.items inside c.index-fpga.ensures c.steps_from.ensures c.loop-next.invariant
    c.in_ok-reach_all.ensures

pub returns-clause-closed : goal.returns-clause-closed
returns-clause-closed c =
    flood_closed c.args.steps.now c.args.mark _ _ c.loop-next.next c.loop-next.marks c.loop-next.queue.items
    (omega arith) c.loop-next.invariant
