use Rattle.std.proofs.Common.{◌≡◌, ℕ, None, replicate, length}
use Rattle.steiner_build.proofs.MarkLaws.{IsMarking}
use Rattle.shortest_forest.specs.Labels.{Labels}
use Rattle.cert_checker.proofs.growth.mark.Given as goal

abbrev pub invariant-loop-f : goal.invariant-loop-f
invariant-loop-f l = (begun : Labels) × (begun.labels ≡ replicate (length l.fn.search.labels) None)
    × (begun.goals ≡ l.fn.search.goals)
    × ((others : ℕ) × IsMarking l.fpgas (length l.fn.search.goals) l.f-index begun l.search others)
