use Rattle.std.proofs.Common.{◌≡◌, ℕ, ◌+◌, ◌<◌, length, get_or, refl, arith}
use Rattle.std.specs.Prelude.{slice_index}
use Rattle.net_groups.proofs.Gathered.{each_before, each_more}
use Rattle.net_groups.proofs.summing.add_to.Goals as goal

pub overflow_add-sums : goal.overflow_add-sums
overflow_add-sums c =
    let x : ℕ = get_or c.args.groups.now c.loop-g.g-index 0 in
    let below : x < length c.args.sums.now = c.requires.there c.loop-g.g-index 0 c.loop-g-test.true in
    let same : slice_index c.loop-g.sums x ≡ slice_index c.args.sums.now x =
    each_before (λ (y : ℕ). y + c.args.amount) 0 c.args.groups.now c.loop-g.g-index c.args.sums.now
    c.loop-g.sums c.requires.distinct c.loop-g-test.true below c.loop-g.invariant in
    omega (arith, same, c.requires.room x 0 below)

pub loop-g-preserved : goal.loop-g-preserved
loop-g-preserved c =
    each_more (λ (y : ℕ). y + c.args.amount) 0 c.args.groups.now c.loop-g.g-index c.args.sums.now
    c.loop-g.sums _ c.requires.distinct c.loop-g-test.true
    (c.requires.there c.loop-g.g-index 0 c.loop-g-test.true) refl c.loop-g.invariant
