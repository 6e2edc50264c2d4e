use Rattle.std.proofs.Common.{◌+◌, ◌*◌, ◌∙◌}
use Rattle.std.specs.Prelude.{slice_index}
use Rattle.ripup_reroute.proofs.Starts.{growing-next}
use Rattle.ripup_reroute.proofs.growing.grow_best.Goals as goal

pub loop-i-preserved : goal.loop-i-preserved
loop-i-preserved c = record {
  growing = growing-next c.args.graph.now (λ e. 2 * slice_index c.args.lengths.now.loads.now e
      + c.args.lengths.now.own) c.args.terminals.now c.args.cap c.loop-i.i c.loop-i.least
      c.loop-i.tools.found.items c.loop-i.invariant.growing
      c.grow_and_keep.new.tools.found.items c.in_ok-grown.grown c.unwrap_or-least.result
      c.in_ok-grown.ensures.grown c.in_ok-grown.ensures.kept c.unwrap_or-least.ensures;
  builder = c.grow_and_keep.ensures.builder ∙ c.loop-i.invariant.builder;
  table = c.grow_and_keep.ensures.table ∙ c.loop-i.invariant.table;
}
