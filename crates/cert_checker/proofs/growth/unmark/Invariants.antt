use Rattle.steiner_build.proofs.MarkLaws.{IsUnmarking}
use Rattle.cert_checker.proofs.growth.unmark.Given as goal

abbrev pub invariant-loop-f : goal.invariant-loop-f
invariant-loop-f l = IsUnmarking l.fpgas l.f-index l.fn.search l.search
