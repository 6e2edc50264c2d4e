use Rattle.std.proofs.Common.{◌≤◌, length, subst}
use Rattle.tdm_problem.proofs.Few.{distinct_few}
use Rattle.cert_checker.specs.MarkedLists.{Marked}
use Rattle.cert_checker.proofs.marked_list.MarkedList.get.Goals as goal

pub returns-clause-few : goal.returns-clause-few
returns-clause-few c =
    subst (λ (m : Marked). length m.listed ≤ m.limit) c.self.view_is
    (distinct_few c.self.inside.listed.items (length c.self.inside.marks.items) c.self.invariant.distinct
    c.self.invariant.there)
