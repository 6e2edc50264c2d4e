use Rattle.std.proofs.Common.{◌<◌, length, get_or, arith}
use Rattle.bound_cert.specs.Certificate.{value_at}
use Rattle.cert_checker.proofs.Spreading.{smallest_more, largest_more}
use Rattle.cert_checker.proofs.spread.spread_over.Goals as goal

pub loop-i-preserved : goal.loop-i-preserved
loop-i-preserved c =
    let inside : c.loop-i.i < length c.args.fpgas.now = omega arith in
    let here = c.requires.potential.values (get_or c.args.fpgas.now c.loop-i.i 0) 0
    (c.requires.there c.loop-i.i 0 inside) in
    let least = smallest_more (value_at c.args.potential.now) c.args.fpgas.now c.loop-i.i
    (omega arith) inside in
    let most = largest_more (value_at c.args.potential.now) c.args.fpgas.now c.loop-i.i inside in (
      omega (arith, least, c.min-least.ensures),
      omega (arith, most, c.max-most.ensures),
      omega (arith, c.min-least.ensures, c.max-most.ensures),
      omega (arith, here, c.max-most.ensures),
    )
