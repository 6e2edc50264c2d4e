use Rattle.cert_checker.proofs.Rests.{AreRestored}
use Rattle.cert_checker.proofs.growth.restore.Given as goal

abbrev pub invariant-loop-e : goal.invariant-loop-e
invariant-loop-e l = AreRestored l.lengths l.up.items l.down.items l.worn l.e-index
