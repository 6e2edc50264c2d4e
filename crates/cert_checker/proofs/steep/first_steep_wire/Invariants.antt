use Rattle.std.proofs.Common.{ℕ, ◌<◌}
use Rattle.bound_cert.specs.Valid.{IsSteep}
use Rattle.cert_checker.proofs.steep.first_steep_wire.Given as goal

abbrev pub invariant-loop-e : goal.invariant-loop-e
invariant-loop-e l = (d : ℕ) → d < l.e → ¬ IsSteep l.problem l.cert l.p d
