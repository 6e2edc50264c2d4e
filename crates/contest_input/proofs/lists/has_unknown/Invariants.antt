use Rattle.std.proofs.Common.{◌≡◌, take, false, nat_le, All, ◌<◌}
use Rattle.std.specs.List.{list_any}
use Rattle.contest_input.proofs.lists.has_unknown.Given as goal

abbrev pub invariant-loop-n : goal.invariant-loop-n
invariant-loop-n l = record {
  clean : list_any (nat_le l.below) (take l.n-index l.numbers) ≡ false;
  known : All (λ n. n < l.below) (take l.n-index l.numbers);
}
