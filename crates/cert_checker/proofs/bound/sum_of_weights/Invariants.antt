use Rattle.std.proofs.Common.{◌≡◌, ◌*◌, ◌≤◌, ◌^◌, take}
use Rattle.std.specs.Prelude.{sum}
use Rattle.cert_checker.proofs.bound.sum_of_weights.Given as goal

abbrev pub invariant-loop-g : goal.invariant-loop-g
invariant-loop-g l = (l.total ≡ sum (take l.g l.cert.weights)) × (l.total ≤ l.g * 2 ^ 40)
