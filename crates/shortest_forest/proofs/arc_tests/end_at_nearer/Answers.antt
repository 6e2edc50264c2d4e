use Rattle.std.proofs.Common.{Option, None, false, length, ap, ◌∙◌}
use Rattle.std.proofs.lemmas.List.{length-replicate}
use Rattle.shortest_forest.specs.declared.label.Label.{Label}
use Rattle.shortest_forest.proofs.UnderWay.{begun_unlabelled}
use Rattle.shortest_forest.proofs.arc_tests.end_at_nearer.Goals as goal

pub add_goal-requires-clause-unlabelled : goal.add_goal-requires-clause-unlabelled
add_goal-requires-clause-unlabelled c =
    begun_unlabelled c.begin.new.self _ c.begin.ensures.labels c.args.goals.0

pub last_goal-requires-clause-under_way : goal.last_goal-requires-clause-under_way
last_goal-requires-clause-under_way c =
    let none : Option Label = None in
    let n = c.args.graph.now.fpgas in
    let made = ap length c.in_ok-search.ensures.labels ∙ length-replicate n none in
    let count = ap length c.begin.ensures.labels ∙ length-replicate (length c.in_ok-search.search.labels) none
    ∙ made in
    let marks = ap length (c.begin.ensures.goals ∙ c.in_ok-search.ensures.goals) ∙ length-replicate n false in
    c.in_ok-add_source.ensures.under_way _ _ _ _ (c.add_goal-2.ensures.under_way
    _ _ _ _ (c.add_goal.ensures.under_way _ _ _ _ (c.begin.ensures.begun _ _ _ _ count marks)))
