use Rattle.std.proofs.Common.{◌≡◌, ℕ, List, ap, ◌+◌, ◌*◌, ◌<◌, length, get_or, subst, sym, arith}
use Rattle.std.specs.Prelude.{slice_index, Contains}
use Rattle.std.proofs.lemmas.List.{get_or_default, take_all}
use Rattle.ripup_reroute.specs.Bounds.{tabled_length}
use Rattle.ripup_reroute.proofs.Bounding.{scaled-more}
use Rattle.ripup_reroute.proofs.table.Table.scale_for.Goals as goal

pub loop-e-preserved : goal.loop-e-preserved
loop-e-preserved c =
    let wires = c.args.wires.now in
    let x : ℕ = get_or wires c.loop-e.e-index 0 in
    let below : x < length c.args.self.now.loads.items =
    omega (arith, c.requires.there c.loop-e.e-index 0 c.loop-e-test.true, c.requires.count) in
    let tabled : tabled_length c.args.self.now x ≡ 2 * c.index.result.now = omega (
      arith,
      c.index.ensures,
      get_or_default c.args.self.now.loads.items x 0 c.index.result.now below,
    ) in
    record {
      least = omega (arith, c.scale_at-scale.ensures.least, c.loop-e.invariant.least);
      scaled = scaled-more (tabled_length c.args.self.now)
          (λ e. 2 * slice_index c.args.lengths.now.loads.now e + c.args.lengths.now.own) wires
          c.loop-e.e-index c.loop-e.scale c.scale_at-scale.result
          c.loop-e-test.true c.scale_at-scale.ensures.least c.loop-e.invariant.scaled
          (omega (
            arith,
            c.scale_at-scale.ensures.scaled,
            c.len_of.ensures,
            ap (λ (k : ℕ). k * c.scale_at-scale.result) tabled,
          ));
    }

pub returns-clause-scaled : goal.returns-clause-scaled
returns-clause-scaled c e among =
    c.loop-e.invariant.scaled e (let P : List ℕ → Type 0 = λ es. Contains es e in
    subst P (sym (take_all c.loop-e.e-index c.args.wires.now (omega (arith, c.loop-e-test.false))))
    among)
