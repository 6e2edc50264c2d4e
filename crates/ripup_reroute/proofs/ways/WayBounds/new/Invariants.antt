use Rattle.std.proofs.Common.{◌≡◌, ◌≢◌, ℕ, ◌<◌, ◌≤◌, length, get_or}
use Rattle.std.specs.Prelude.{All}
use Rattle.ripup_reroute.specs.Ways.{IsAmong}
use Rattle.ripup_reroute.proofs.ways.WayBounds.new.Given as goal

abbrev pub invariant-loop-t : goal.invariant-loop-t
invariant-loop-t l = record {
  room : length l.waiting ≡ 6;
  few : l.left ≤ l.t-index;
  there : All (λ t. t < l.table.fpgas) l.waiting;
  among : (k : ℕ) → k < l.t-index → get_or l.terminals k 0 ≢ l.start
      → IsAmong l.waiting l.left (get_or l.terminals k 0);
}
