use Rattle.std.proofs.Common.{◌≡◌, ℕ, ◌+◌, ◌*◌, ◌<◌, length, get_or, take}
use Rattle.std.specs.Prelude.{sum, ◌==◌, if◌then◌else◌}
use Rattle.std.specs.List.{list_any}
use Rattle.cert_checker.proofs.net_weights.add_weight.Given as goal

abbrev pub invariant-loop-n : goal.invariant-loop-n
invariant-loop-n l =
    ((n : ℕ) → n < length l.initial.weights → get_or l.weights n 0 ≡ get_or l.initial.weights n 0
    + (if list_any (λ m. m == n) (take l.n-index l.nets) then l.weight else 0))
    × (sum l.weights ≡ sum l.initial.weights + l.weight * l.n-index)
