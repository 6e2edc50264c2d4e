use Rattle.std.proofs.Common.{◌≡◌, ◌+◌, ◌*◌, ◌<◌, ℕ, length, get_or, sym, ap, subst, arith}
use Rattle.cert_checker.proofs.WeightedSums.{IsSummed, summed-more, summed-fits}
use Rattle.cert_checker.proofs.bound.weighted_sum.Goals as goal

pub overflow_add-total : goal.overflow_add-total
overflow_add-total c =
    let below : c.loop-n.n < length c.args.factors.now = omega arith in
    let fits = summed-fits c.args.factors.now c.args.spreads.now c.requires.whole c.loop-n.n c.loop-n.total
    c.requires.small.0 below c.loop-n.invariant c.requires.small.1 c.requires.small.2 in
    let same : c.from.result * get_or c.args.spreads.now c.loop-n.n 0
    ≡ get_or c.args.factors.now c.loop-n.n 0 * get_or c.args.spreads.now c.loop-n.n 0 =
    ap (λ (f : ℕ). f * get_or c.args.spreads.now c.loop-n.n 0) c.from.ensures in
    omega (arith, fits, same)

pub loop-n-preserved : goal.loop-n-preserved
loop-n-preserved c =
    let below : c.loop-n.n < length c.args.factors.now = omega arith in
    subst (λ (f : ℕ). IsSummed c.args.factors.now c.args.spreads.now (c.loop-n.n + 1)
    (c.loop-n.total + f * get_or c.args.spreads.now c.loop-n.n 0)) (sym c.from.ensures)
    (summed-more c.args.factors.now c.args.spreads.now c.requires.whole c.loop-n.n c.loop-n.total below
    c.loop-n.invariant)
