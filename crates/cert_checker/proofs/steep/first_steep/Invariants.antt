use Rattle.std.proofs.Common.{ℕ, ◌<◌}
use Rattle.cert_checker.specs.Steep.{IsLevel}
use Rattle.cert_checker.proofs.steep.first_steep.Given as goal

abbrev pub invariant-loop-potential : goal.invariant-loop-potential
invariant-loop-potential l = (p : ℕ) → p < l.potential → IsLevel l.problem l.cert p
