use Rattle.std.proofs.Common.{◌≡◌, ◌*◌, ◌≤◌, ◌^◌, take}
use Rattle.std.specs.Prelude.{sum_by}
use Rattle.cert_checker.proofs.bound.sum_of_squares.Given as goal

abbrev pub invariant-loop-e : goal.invariant-loop-e
invariant-loop-e l = (l.total ≡ sum_by (λ l. l * l) (take l.e l.cert.lengths)) × (l.total ≤ l.e * 2 ^ 96)
