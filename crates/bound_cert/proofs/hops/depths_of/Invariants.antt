use Rattle.std.proofs.Common.{◌≡◌, ℕ, ◌<◌, ◌≤◌, length}
use Rattle.std.specs.Prelude.{All, slice_index}
use Rattle.bound_cert.specs.Depths.{IsDepth}
use Rattle.bound_cert.proofs.hops.depths_of.Given as goal

abbrev pub invariant-loop-n : goal.invariant-loop-n
invariant-loop-n l = record {
  count : length l.depths.items ≡ l.n;
  each : (k : ℕ) → k < l.n → IsDepth l.problem k (slice_index l.depths.items k);
  within : (most : ℕ) → All (All (λ v. v ≤ most)) l.potentials → All (λ h. h ≤ most) l.depths.items;
}
