use Rattle.std.proofs.Common.{◌≡◌, ℕ, ◌<◌, length, get_or, take, arith}
use Rattle.std.proofs.lemmas.List.{get_or_default}
use Rattle.tdm_problem.specs.Loads.{load_by}
use Rattle.ripup_reroute.proofs.Adding.{load_by-next, IsAdded-more}
use Rattle.ripup_reroute.proofs.loads.add_number.Goals as goal

pub overflow_add-index_mut : goal.overflow_add-index_mut
overflow_add-index_mut c =
    let x : ℕ = get_or c.args.wires.now c.loop-e.e-index 0 in
    let inside : x < length c.loop-e.loads.items =
    omega (arith, c.loop-e.invariant.count, c.requires.there c.loop-e.e-index 0 c.loop-e-test.true) in
    let none : load_by c.args.number (take c.loop-e.e-index c.args.wires.now) x ≡ 0 =
    load_by-next c.args.number c.args.wires.now c.loop-e.e-index c.requires.distinct c.loop-e-test.true in
    omega (
      arith,
      c.index_mut.ensures.value,
      get_or_default c.loop-e.loads.items x 0 c.index_mut.result.now inside,
      none,
      c.loop-e.invariant.each x,
      c.requires.room x,
    )

pub loop-e-preserved : goal.loop-e-preserved
loop-e-preserved c =
    let x : ℕ = get_or c.args.wires.now c.loop-e.e-index 0 in
    let inside : x < length c.loop-e.loads.items =
    omega (arith, c.loop-e.invariant.count, c.requires.there c.loop-e.e-index 0 c.loop-e-test.true) in
    IsAdded-more c.args.number c.args.wires.now c.loop-e.e-index _ c.requires.distinct c.loop-e-test.true
    c.args.loads.now.items c.loop-e.loads.items inside
    (omega (
      arith,
      c.index_mut.ensures.value,
      get_or_default c.loop-e.loads.items x 0 c.index_mut.result.now inside,
    )) c.loop-e.invariant
