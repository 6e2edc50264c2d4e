use Rattle.bound_cert.proofs.SourceLaws.{AreSourcesBefore}
use Rattle.bound_cert.proofs.sources.Sources.of.Given as goal

abbrev pub invariant-loop-n : goal.invariant-loop-n
invariant-loop-n l = AreSourcesBefore l.problem l.n l.fpgas.keys l.choices.items
