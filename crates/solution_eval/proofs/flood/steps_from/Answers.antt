use Rattle.std.proofs.Common.{◌+◌, ◌≤◌, arith, rules}
use Rattle.solution_eval.proofs.Cuts.{cuts_rise, steps_between_cuts}
use Rattle.solution_eval.proofs.flood.steps_from.Goals as goal

pub slice_bounds-result-count : goal.slice_bounds-result-count
slice_bounds-result-count c =
    cuts_rise c.args.steps.now c.steps_below-first.result c.steps_below-after.result c.from.result
    (c.from-2.result + 1) (omega arith) c.steps_below-first.ensures.within
    c.steps_below-first.ensures.below c.steps_below-after.ensures.above

pub slice_bounds-result-start : goal.slice_bounds-result-start
slice_bounds-result-start c =
    let rising : c.steps_below-first.result ≤ c.steps_below-after.result =
    cuts_rise c.args.steps.now c.steps_below-first.result c.steps_below-after.result c.from.result
    (c.from-2.result + 1) (omega arith) c.steps_below-first.ensures.within
    c.steps_below-first.ensures.below c.steps_below-after.ensures.above in
    search rules

pub returns : goal.returns
returns c =
    let rising : c.steps_below-first.result ≤ c.steps_below-after.result =
    cuts_rise c.args.steps.now c.steps_below-first.result c.steps_below-after.result c.from.result
    (c.from-2.result + 1) (omega arith) c.steps_below-first.ensures.within
    c.steps_below-first.ensures.below c.steps_below-after.ensures.above in
    steps_between_cuts c.args.steps.now c.steps_below-first.result c.steps_below-after.result c.args.fpga
    c.from.result (c.from-2.result + 1) c.from.ensures (omega arith) rising
    c.steps_below-after.ensures.within c.steps_below-first.ensures.below c.steps_below-first.ensures.above
    c.steps_below-after.ensures.below c.steps_below-after.ensures.above
