use Rattle.std.proofs.Common.{◌≡◌, ◌-◌, ◌^◌, ◌<◌, length, get_or, take, arith}
use Rattle.std.specs.Prelude.{count_by, ◌==◌}
use Rattle.even_legalise.proofs.UniformLaws.{count_before}
use Rattle.even_legalise.proofs.counts.add_net.Goals as goal

pub overflow_add-counts : goal.overflow_add-counts
overflow_add-counts c =
    let there : get_or c.args.wires.now c.loop-e.e-index 0 < length c.args.counts.now =
    c.requires.there c.loop-e.e-index 0 (omega arith) in
    let room : get_or c.args.counts.now (get_or c.args.wires.now c.loop-e.e-index 0) 0 < 2 ^ 32 - 1 =
    c.requires.room (get_or c.args.wires.now c.loop-e.e-index 0) 0 there in
    let none : count_by (λ d. d == get_or c.args.wires.now c.loop-e.e-index 0)
    (take c.loop-e.e-index c.args.wires.now) ≡ 0 =
    count_before c.args.wires.now c.loop-e.e-index (omega arith) c.requires.distinct in
    omega (arith, c.loop-e.invariant (get_or c.args.wires.now c.loop-e.e-index 0) there)
