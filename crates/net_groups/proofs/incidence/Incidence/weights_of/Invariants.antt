use Rattle.std.proofs.Common.{◌≡◌, ℕ, ◌^◌, ◌<◌, ◌≤◌}
use Rattle.std.specs.Prelude.{vec_len, slice_index, All}
use Rattle.net_groups.specs.Incidence.{weight_of}
use Rattle.net_groups.proofs.incidence.Incidence.weights_of.Given as goal

abbrev pub invariant-loop-n : goal.invariant-loop-n
invariant-loop-n l = record {
  count : vec_len l.sums ≡ l.n;
  each : (n : ℕ) → n < l.n → slice_index l.sums.items n ≡ weight_of l.self l.weights n;
  small : All (λ w. w ≤ 2 ^ 60) l.sums.items;
}
