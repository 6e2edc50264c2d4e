use Rattle.std.proofs.Common.{◌≡◌, ◌*◌, length}
use Rattle.std.specs.Prelude.{sum_by}
use Rattle.ripup_reroute.proofs.tests.reroute_crowd.Given as goal

abbrev pub invariant-loop-n : goal.invariant-loop-n
invariant-loop-n l = record {
  fpgas : l.draft.fpgas ≡ 3;
  nets : length l.draft.nets ≡ l.n;
  listed : sum_by length l.draft.nets ≡ 3 * l.n;
}
