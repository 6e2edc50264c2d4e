use Rattle.std.proofs.Common.{◌+◌, sym, subst, arith}
use Rattle.cert_checker.specs.Growing.{IsLeastOf}
use Rattle.cert_checker.proofs.Distances.{IsEarly, least-of-first, least-of-more, least-of-all}
use Rattle.cert_checker.proofs.growth.least_distance.Goals as goal

pub loop-f-init : goal.loop-f-init
loop-f-init c = least-of-first c.args.search.now c.args.root c.args.fpgas.now c.distance-least.result
    c.distance-least.ensures

pub loop-f-preserved : goal.loop-f-preserved
loop-f-preserved c =
    let s = c.args.search.now in
    subst (IsLeastOf s (IsEarly c.args.root c.args.fpgas.now (c.loop-f.f-index + 1)))
    (sym c.nearer-least.ensures)
    (least-of-more s c.args.root c.args.fpgas.now c.loop-f.f-index c.loop-f.least c.distance.result
    c.loop-f-test.true c.distance.ensures c.loop-f.invariant)

pub returns : goal.returns
returns c = least-of-all c.args.search.now c.args.root c.args.fpgas.now c.loop-f.f-index c.loop-f.least
    (omega (arith, c.loop-f-test.false)) c.loop-f.invariant
