use Rattle.std.proofs.Common.{◌≡◌, ◌+◌, ◌*◌}
use Rattle.std.specs.Prelude.{slice_index}
use Rattle.ripup_reroute.proofs.Starts.{IsGrowing}
use Rattle.ripup_reroute.proofs.growing.grow_best.Given as goal

abbrev pub invariant-loop-i : goal.invariant-loop-i
invariant-loop-i l = record {
  growing : IsGrowing l.graph (λ e. 2 * slice_index l.lengths.loads.now e + l.lengths.own) l.terminals l.cap
      l.i l.least l.tools.found.items;
  builder : l.tools.builder.fpgas ≡ l.fn.tools.builder.fpgas;
  table : l.tools.table ≡ l.fn.tools.table;
}
