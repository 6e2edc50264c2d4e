use Rattle.std.proofs.Common.{◌+◌, ◌*◌}
use Rattle.std.specs.Prelude.{slice_index}
use Rattle.board_graph.specs.Graph.{board_of}
use Rattle.ripup_reroute.proofs.Starts.{growth-made}
use Rattle.ripup_reroute.proofs.growing.grow_from.Goals as goal

pub grow-requires-2-clause-lawful : goal.grow-requires-2-clause-lawful
grow-requires-2-clause-lawful c = λ goals others.
    c.new-bounds.ensures.ways (board_of c.args.graph.now) (λ e. 2 * slice_index c.args.lengths.now.loads.now e
    + c.args.lengths.now.own) goals c.requires.table c.requires.scaled others

pub returns-then-terminals-gt-MOST_BOUNDED-clause-grown :
    goal.returns-then-terminals-gt-MOST_BOUNDED-clause-grown
returns-then-terminals-gt-MOST_BOUNDED-clause-grown c =
    growth-made c.args.graph.now (λ e. 2 * slice_index c.args.lengths.now.loads.now e
    + c.args.lengths.now.own) c.args.terminals.now c.args.start c.args.cap c.grow.new.self.wires
    c.grow.result
    c.grow.ensures.minimal c.grow.ensures.rising c.grow.ensures.inside c.grow.ensures.total
    c.grow.ensures.below c.grow.ensures.short c.grow.ensures.far c.grow.ensures.apart

pub returns-clause-grown : goal.returns-clause-grown
returns-clause-grown c =
    growth-made c.args.graph.now (λ e. 2 * slice_index c.args.lengths.now.loads.now e
    + c.args.lengths.now.own) c.args.terminals.now c.args.start c.args.cap c.grow-2.new.self.wires
    c.grow-2.result
    c.grow-2.ensures.minimal c.grow-2.ensures.rising c.grow-2.ensures.inside c.grow-2.ensures.total
    c.grow-2.ensures.below c.grow-2.ensures.short c.grow-2.ensures.far c.grow-2.ensures.apart
