use Rattle.std.proofs.Common.{◌≡◌, ℕ, ◌<◌, length, get_or, take}
use Rattle.std.specs.Prelude.{◌==◌, max, if◌then◌else◌}
use Rattle.std.specs.List.{fold}
use Rattle.even_legalise.proofs.claims.raise_each.Given as goal

abbrev pub invariant-loop-e : goal.invariant-loop-e
invariant-loop-e l = (e : ℕ) → e < length l.initial.most
    → get_or l.most e 0 ≡ fold (λ a d. if d == e then max a l.number else a) (get_or l.initial.most e 0)
    (take l.e-index l.wires)
