use Rattle.std.proofs.Common.{length, get_or, ◌∙◌, arith}
use Rattle.solution_eval.proofs.Flooding.{marked_iff_led_first}
use Rattle.solution_eval.proofs.flood.leads_to_all.Goals as goal

pub returns-clause-leads : goal.returns-clause-leads
returns-clause-leads c =
    marked_iff_led_first c.all_marked.result c.args.steps.now c.args.mark (get_or c.args.fpgas.now 0 0)
    (length c.args.marks.now) c.start.new.queue.items c.flood.new.marks c.flood.new.queue.items
    c.args.fpgas.now
    c.all_marked.ensures c.in_ok-start.ensures.one (c.in_ok-flood.ensures.size ∙ c.in_ok-start.ensures.size)
    c.requires.there c.requires.fpgas_there (c.requires.fpgas_there 0 0 c.requires.some)
    c.in_ok-flood.ensures.lists c.in_ok-flood.ensures.source c.in_ok-flood.ensures.led
    (λ v w inside. c.in_ok-flood.ensures.closed v w (omega (arith, c.in_ok-start.ensures.size)))
