use Rattle.std.proofs.Common.{ℕ, ◌<◌, length, get_or, arith}
use Rattle.std.proofs.lemmas.List.{get_or_default}
use Rattle.ripup_reroute.proofs.Adding.{taken-enough, IsAdded-less}
use Rattle.ripup_reroute.proofs.loads.take_number.Goals as goal

pub overflow_sub-index_mut : goal.overflow_sub-index_mut
overflow_sub-index_mut c =
    let x : ℕ = get_or c.args.wires.now c.loop-e.e-index 0 in
    let inside : x < length c.loop-e.loads.items =
    omega (arith, c.loop-e.invariant.count, c.requires.there c.loop-e.e-index 0 c.loop-e-test.true) in
    omega (
      arith,
      c.index_mut.ensures.value,
      get_or_default c.loop-e.loads.items x 0 c.index_mut.result.now inside,
      taken-enough c.args.number c.args.wires.now c.loop-e.e-index c.args.loads.now.items c.loop-e.loads.items
          c.requires.distinct c.loop-e-test.true c.requires.loaded c.loop-e.invariant,
    )

pub loop-e-preserved : goal.loop-e-preserved
loop-e-preserved c =
    let x : ℕ = get_or c.args.wires.now c.loop-e.e-index 0 in
    let inside : x < length c.loop-e.loads.items =
    omega (arith, c.loop-e.invariant.count, c.requires.there c.loop-e.e-index 0 c.loop-e-test.true) in
    IsAdded-less c.args.number c.args.wires.now c.loop-e.e-index _ c.requires.distinct c.loop-e-test.true
    c.args.loads.now.items c.loop-e.loads.items inside
    (omega (
      arith,
      c.index_mut.ensures.value,
      get_or_default c.loop-e.loads.items x 0 c.index_mut.result.now inside,
      taken-enough c.args.number c.args.wires.now c.loop-e.e-index c.args.loads.now.items c.loop-e.loads.items
          c.requires.distinct c.loop-e-test.true c.requires.loaded c.loop-e.invariant,
    ))
    c.loop-e.invariant
