use Rattle.std.proofs.Common.{◌+◌, ◌-◌, ◌<◌, take, drop, slice_index, arith, ap, ◌∙◌}
use Rattle.std.proofs.lemmas.List.{get_or_read}
use Rattle.board_graph.specs.Graph.{Graph}
use Rattle.board_graph.specs.Neighbours.{neighbours_from}
use Rattle.board_graph.proofs.RowLemmas.{row_is, row_within}
use Rattle.board_graph.proofs.graph.BoardGraph.neighbours.Goals as goal

pub slice_bounds-result-end : goal.slice_bounds-result-end
slice_bounds-result-end c =
    let rows = c.self.invariant.1 in
    let below : c.args.f < c.self.inside.fpgas = omega (arith, ap (λ (g : Graph). g.fpgas) c.self.view_is) in
    let from = get_or_read c.self.inside.rows.starts.items c.args.f c.index.result.now
    (omega (arith, rows.count)) c.index.ensures 0 in
    let to = get_or_read c.self.inside.rows.starts.items (c.args.f + 1) c.index-2.result.now
    (omega (arith, rows.count)) c.index-2.ensures 0 in
    let within = row_within c.self.inside.fpgas c.self.inside.wires.items c.self.inside.rows.starts.items
    c.self.inside.rows.neighbours.items rows c.args.f below in
    omega (arith, within, from, to)

pub returns-clause-exact : goal.returns-clause-exact
returns-clause-exact c =
    let rows = c.self.invariant.1 in
    let below : c.args.f < c.self.inside.fpgas = omega (arith, ap (λ (g : Graph). g.fpgas) c.self.view_is) in
    let from = get_or_read c.self.inside.rows.starts.items c.args.f c.index.result.now
    (omega (arith, rows.count)) c.index.ensures 0 in
    let to = get_or_read c.self.inside.rows.starts.items (c.args.f + 1) c.index-2.result.now
    (omega (arith, rows.count)) c.index-2.ensures 0 in
    ap (λ e. take (e - c.index.result.now) (drop c.index.result.now c.deref.result.now)) to
    ∙ ap (λ s. take (slice_index c.self.inside.rows.starts.items (c.args.f + 1) - s)
    (drop s c.deref.result.now)) from
    ∙ ap (λ xs. take (slice_index c.self.inside.rows.starts.items (c.args.f + 1) - slice_index
    c.self.inside.rows.starts.items c.args.f)
    (drop (slice_index c.self.inside.rows.starts.items c.args.f) xs)) c.deref.ensures.value
    ∙ row_is c.self.inside.fpgas c.self.inside.wires.items c.self.inside.rows.starts.items
    c.self.inside.rows.neighbours.items rows c.args.f below
    ∙ ap (λ (g : Graph). neighbours_from c.args.f 0 g.wires) c.self.view_is
