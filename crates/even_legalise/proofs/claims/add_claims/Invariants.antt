use Rattle.std.proofs.Common.{◌≡◌, ℕ, ◌+◌, ◌<◌, length, get_or, take}
use Rattle.std.specs.Prelude.{◌==◌, max, sum_by, if◌then◌else◌}
use Rattle.even_legalise.proofs.claims.add_claims.Given as goal

abbrev pub invariant-loop-e : goal.invariant-loop-e
invariant-loop-e l = (e : ℕ) → e < length l.initial.claims → get_or l.claims e 0 ≡ get_or l.initial.claims e 0
    + sum_by (λ d. if d == e then max l.number (get_or l.least e 0) else 0) (take l.e-index l.wires)
