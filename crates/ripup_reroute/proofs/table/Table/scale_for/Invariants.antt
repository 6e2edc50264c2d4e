use Rattle.std.proofs.Common.{ℕ, ◌+◌, ◌*◌, ◌≤◌, take}
use Rattle.std.specs.Prelude.{slice_index, Contains}
use Rattle.ripup_reroute.specs.Bounds.{tabled_length}
use Rattle.ripup_reroute.proofs.table.Table.scale_for.Given as goal

abbrev pub invariant-loop-e : goal.invariant-loop-e
invariant-loop-e l = record {
  least : l.scale ≤ l.self.scale;
  scaled : (e : ℕ) → Contains (take l.e-index l.wires) e → tabled_length l.self e * l.scale
      ≤ 4096 * (2 * slice_index l.lengths.loads.now e + l.lengths.own);
}
