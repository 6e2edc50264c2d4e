use Rattle.std.proofs.Common.{◌≡◌, ℕ, ◌+◌, ◌-◌, ◌*◌, ◌∙◌, ap, get_or, subst, sym, arith}
use Rattle.std.specs.Prelude.{slice_index}
use Rattle.board_graph.specs.Graph.{board_of}
use Rattle.ripup_reroute.specs.Bounds.{bound_at}
use Rattle.ripup_reroute.proofs.Reaching.{IsRaising, raising-room, raising-more, raising-within, table-bounds}
use Rattle.ripup_reroute.proofs.walks.least_sum.Goals as goal

pub overflow_sub-left : goal.overflow_sub-left
overflow_sub-left c =
    omega (
      arith,
      c.bound.ensures.value,
      raising-room (board_of c.args.graph.now) (λ e. 2 * slice_index c.args.lengths.now.loads.now e
          + c.args.lengths.now.own) (slice_index c.args.terminals.now 0) c.args.terminals.now
          (λ t. bound_at c.args.table.now c.args.scale t (slice_index c.args.terminals.now 0))
          c.loop-t.t-index c.loop-t.known c.loop-t.left c.args.cap c.loop-t-test.true
          c.loop-t.invariant.raising,
    )

pub loop-t-preserved : goal.loop-t-preserved
loop-t-preserved c =
    let bound : ℕ → ℕ = λ t. bound_at c.args.table.now c.args.scale t (slice_index c.args.terminals.now 0) in
    let t : ℕ = get_or c.args.terminals.now c.loop-t.t-index 0 in
    let is : c.loop-t.left - bound t ≡ c.loop-t.left - c.bound.result =
    ap (λ (k : ℕ). c.loop-t.left - k) (sym c.bound.ensures.value) in
    let room = raising-room (board_of c.args.graph.now) (λ e. 2 * slice_index c.args.lengths.now.loads.now e
    + c.args.lengths.now.own) (slice_index c.args.terminals.now 0) c.args.terminals.now bound
    c.loop-t.t-index c.loop-t.known c.loop-t.left c.args.cap c.loop-t-test.true c.loop-t.invariant.raising in
    let P : ℕ → Type 0 =
    λ left. IsRaising (board_of c.args.graph.now) (λ e. 2 * slice_index c.args.lengths.now.loads.now e
    + c.args.lengths.now.own) (slice_index c.args.terminals.now 0) c.args.terminals.now bound
    (c.loop-t.t-index + 1) (c.loop-t.known + c.in_ok-known.field-0) left c.args.cap in
    record {
      raising = subst P is
          (raising-more (board_of c.args.graph.now) (λ e. 2 * slice_index c.args.lengths.now.loads.now e
          + c.args.lengths.now.own) (slice_index c.args.terminals.now 0) c.args.terminals.now bound
          c.loop-t.t-index c.loop-t.known c.loop-t.left c.args.cap c.in_ok-known.field-0 c.loop-t-test.true
          c.loop-t.invariant.raising
          (omega (
            arith,
            is,
            room,
            c.bound.ensures.value,
            c.in_ok-known.ensures.capped,
            c.loop-t.invariant.raising.capped,
          ))
          c.in_ok-known.ensures.least);
      builder = c.distance_within.ensures.builder ∙ c.loop-t.invariant.builder;
    }

pub returns-then-known-left-clause-least : goal.returns-then-known-left-clause-least
returns-then-known-left-clause-least c =
    raising-within (board_of c.args.graph.now) (λ e. 2 * slice_index c.args.lengths.now.loads.now e
    + c.args.lengths.now.own) (slice_index c.args.terminals.now 0) c.args.terminals.now
    (λ t. bound_at c.args.table.now c.args.scale t (slice_index c.args.terminals.now 0))
    (table-bounds (board_of c.args.graph.now) c.args.table.now c.args.scale
    (λ e. 2 * slice_index c.args.lengths.now.loads.now e + c.args.lengths.now.own) c.requires.table
    c.requires.scaled (slice_index c.args.terminals.now 0) c.args.terminals.now c.requires.there)
    c.loop-t.t-index c.loop-t.known c.loop-t.left c.args.cap c.loop-t.invariant.raising

pub returns-clause-least : goal.returns-clause-least
returns-clause-least c =
    raising-within (board_of c.args.graph.now) (λ e. 2 * slice_index c.args.lengths.now.loads.now e
    + c.args.lengths.now.own) (slice_index c.args.terminals.now 0) c.args.terminals.now
    (λ t. bound_at c.args.table.now c.args.scale t (slice_index c.args.terminals.now 0))
    (table-bounds (board_of c.args.graph.now) c.args.table.now c.args.scale
    (λ e. 2 * slice_index c.args.lengths.now.loads.now e + c.args.lengths.now.own) c.requires.table
    c.requires.scaled (slice_index c.args.terminals.now 0) c.args.terminals.now c.requires.there)
    c.loop-t.t-index c.loop-t.known c.loop-t.left c.args.cap c.loop-t.invariant.raising
