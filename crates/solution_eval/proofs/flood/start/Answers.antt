use Rattle.solution_eval.proofs.Reaching.{start_lists}
use Rattle.solution_eval.proofs.flood.start.Goals as goal

pub returns-clause-lists : goal.returns-clause-lists
returns-clause-lists c =
    (start_lists c.args.mark c.args.source c.args.marks.now c.clear.new.self.items c.reach.new.marks
    c.reach.new.queue.items c.requires.there c.requires.new c.clear.ensures.items
    c.in_ok-reach.ensures.marks c.in_ok-reach.ensures.queue).0

pub returns-clause-one : goal.returns-clause-one
returns-clause-one c =
    (start_lists c.args.mark c.args.source c.args.marks.now c.clear.new.self.items c.reach.new.marks
    c.reach.new.queue.items c.requires.there c.requires.new c.clear.ensures.items
    c.in_ok-reach.ensures.marks c.in_ok-reach.ensures.queue).1
