use Rattle.std.proofs.Common.{◌+◌, ◌-◌, ◌/◌, arith, rules}
use Rattle.recip_sum.specs.Items.{items_of}
use Rattle.recip_sum.proofs.Trials.{IsBetween-fails}
use Rattle.recip_sum.proofs.least_even.least_even_of.Goals as goal

pub loop-low-preserved : goal.loop-low-preserved
loop-low-preserved g c =
    let l = c.loop-low in
    let half = l.low + (l.high - l.low) / 2 in (
      IsBetween-fails (items_of c.args.counts.now.entries) c.args.lanes l.low l.high l.invariant.0 half
          (omega arith) (omega arith) (λ fits. let found = c.fits_with.ensures.exact.1 fits in let failed =
          c.if-fits_with.false in search rules),
      omega (arith, c.fits_with.ensures.room, l.invariant.1),
      omega (arith, c.fits_with.ensures.steps_rise, l.invariant.2),
    )
