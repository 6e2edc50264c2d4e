use Rattle.std.proofs.Common.{◌≡◌, take}
use Rattle.contest_input.proofs.lists.narrow.Given as goal

abbrev pub invariant-loop-n : goal.invariant-loop-n
invariant-loop-n l = l.row.items ≡ take l.n-index l.numbers
