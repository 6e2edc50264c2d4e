use Rattle.std.proofs.Common.{◌≡◌, ℕ, ◌+◌, ◌*◌, ◌∙◌, ap, subst, arith}
use Rattle.std.specs.Prelude.{slice_index}
use Rattle.board_graph.specs.Graph.{board_of}
use Rattle.shortest_forest.specs.Labels.{label_at, distance_in}
use Rattle.ripup_reroute.specs.Bounds.{row_entry}
use Rattle.ripup_reroute.proofs.Bounding.{rows-more}
use Rattle.ripup_reroute.proofs.table.fill.Goals as goal

pub loop-root-preserved : goal.loop-root-preserved
loop-root-preserved c =
    let place : c.loop-root.root * c.fpgas-fpgas.result ≡ c.loop-root.root * c.args.graph.now.fpgas =
    ap (λ (n : ℕ). c.loop-root.root * n) c.fpgas-fpgas.ensures.value in
    record {
      size = c.write_row.ensures.size ∙ c.loop-root.invariant.size;
      small = c.write_row.ensures.small;
      labels = c.settle_all.ensures.count ∙ c.loop-root.invariant.labels;
      goals = c.settle_all.ensures.goals ∙ c.loop-root.invariant.goals;
      rows = rows-more (board_of c.args.graph.now) (λ e. 2 * slice_index c.args.lengths.now.loads.now e
          + c.args.lengths.now.own) c.loop-root.root c.loop-root.distances.items
          c.write_row.new.distances.items
          (λ f. distance_in (label_at c.settle_all.new.search f)) c.loop-root.invariant.rows
          (λ i below. c.write_row.ensures.before i (omega (arith, below, place)))
          (λ f below.
          let P : ℕ → Type 0 = λ k. slice_index c.write_row.new.distances.items (k + f)
          ≡ row_entry (distance_in (label_at c.settle_all.new.search f)) in
          subst P place (c.write_row.ensures.row f (omega (arith, below, c.fpgas-fpgas.ensures.value))))
          c.in_ok-settle_all.ensures.exact;
    }
