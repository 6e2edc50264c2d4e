use Rattle.std.proofs.Common.{◌≡◌, length}
use Rattle.shortest_forest.proofs.length_tests.longest_path.Given as goal

abbrev pub invariant-loop-f : goal.invariant-loop-f
invariant-loop-f l = (l.draft.fpgas ≡ 4096) × (length l.draft.wires ≡ l.f)
