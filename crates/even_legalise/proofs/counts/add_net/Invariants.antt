use Rattle.std.proofs.Common.{◌≡◌, ℕ, ◌+◌, ◌<◌, length, get_or, take}
use Rattle.std.specs.Prelude.{count_by, ◌==◌}
use Rattle.even_legalise.proofs.counts.add_net.Given as goal

abbrev pub invariant-loop-e : goal.invariant-loop-e
invariant-loop-e l = (e : ℕ) → e < length l.initial.counts → get_or l.counts e 0 ≡ get_or l.initial.counts e 0
    + count_by (λ d. d == e) (take l.e-index l.wires)
