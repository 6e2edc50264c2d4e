use Rattle.cert_checker.proofs.Rests.{AreRestored-none, AreRestored-more, restored-up, restored-down}
use Rattle.cert_checker.proofs.growth.restore.Goals as goal

pub loop-e-init : goal.loop-e-init
loop-e-init c = AreRestored-none c.args.lengths.now c.args.up.now.items c.args.down.now.items c.args.worn.now
    c.requires.listed

pub loop-e-preserved : goal.loop-e-preserved
loop-e-preserved c = AreRestored-more c.args.lengths.now c.loop-e.up.items c.loop-e.down.items c.args.worn.now
    c.loop-e.e-index c.loop-e-test.true c.loop-e.invariant

pub returns-clause-up : goal.returns-clause-up
returns-clause-up c = restored-up c.args.lengths.now c.loop-e.up.items c.loop-e.down.items c.args.worn.now
    c.loop-e.e-index c.loop-e-test.false c.loop-e.invariant

pub returns-clause-down : goal.returns-clause-down
returns-clause-down c = restored-down c.args.lengths.now c.loop-e.up.items c.loop-e.down.items c.args.worn.now
    c.loop-e.e-index c.loop-e-test.false c.loop-e.invariant
