use Rattle.std.proofs.Common.{◌∷◌, arith}
use Rattle.recip_sum.specs.Counts.{items}
use Rattle.recip_sum.proofs.Same.{SameReciprocals-sym, FitsLanes-same}
use Rattle.recip_sum.proofs.Trials.{FitsLanes-greater}
use Rattle.worst_refine.proofs.tight.replace_by_least.Goals as goal

pub least_ratio-least-requires-clause-room : goal.least_ratio-least-requires-clause-room
least_ratio-least-requires-clause-room c =
    let some = c.requires.even.1 in
    let half = c.requires.even.2 in
    FitsLanes-greater c.args.ratio 4294967294 (items c.remove.new.self) 1 (omega arith) (omega (
      arith,
      half,
      c.ranges.ratio.fits,
    ))
    (FitsLanes-same (items c.args.counts.now) (c.args.ratio ∷ items c.remove.new.self) 1
    (SameReciprocals-sym _ _ c.remove.ensures.same) c.requires.fits)
