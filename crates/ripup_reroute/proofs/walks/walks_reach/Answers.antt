use Rattle.std.proofs.Common.{ℕ, ◌+◌, ◌*◌, arith}
use Rattle.std.specs.Prelude.{slice_index}
use Rattle.board_graph.specs.Graph.{board_of}
use Rattle.ripup_reroute.specs.Bounds.{bound_at}
use Rattle.ripup_reroute.proofs.FirstWires.{within-second}
use Rattle.ripup_reroute.proofs.Reaching.{bounds-within, table-bounds}
use Rattle.ripup_reroute.proofs.walks.walks_reach.Goals as goal

pub returns-then-sum-cap-clause-reach : goal.returns-then-sum-cap-clause-reach
returns-then-sum-cap-clause-reach c _ =
    bounds-within (board_of c.args.graph.now) (λ e. 2 * slice_index c.args.lengths.now.loads.now e
    + c.args.lengths.now.own) (slice_index c.args.terminals.now 0) c.args.terminals.now
    (λ t. bound_at c.args.table.now c.args.scale t (slice_index c.args.terminals.now 0))
    (table-bounds (board_of c.args.graph.now) c.args.table.now c.args.scale
    (λ e. 2 * slice_index c.args.lengths.now.loads.now e + c.args.lengths.now.own) c.requires.table
    c.requires.scaled (slice_index c.args.terminals.now 0) c.args.terminals.now c.requires.there)
    c.args.cap (omega (arith, c.bound_sum-sum.ensures.within, c.if-sum-cap.true))

pub returns-then-pair-clause-reach : goal.returns-then-pair-clause-reach
returns-then-pair-clause-reach c known =
    let wire_length : ℕ → ℕ = λ e. 2 * slice_index c.args.lengths.now.loads.now e + c.args.lengths.now.own in
    let terminals = c.args.terminals.now in
    within-second (board_of c.args.graph.now) wire_length (slice_index terminals 0) terminals c.args.cap
    (omega (arith, c.if-pair.true)) (c.first_wires_reach-reach.ensures known)
