use Rattle.std.proofs.Common.{◌≡◌, ℕ, ◌+◌, ◌<◌, List, Option, None, false, length, sym, ap, ◌∙◌, subst, arith, get_or}
use Rattle.std.proofs.lemmas.List.{get_or-replicate, length-replicate}
use Rattle.std.proofs.lemmas.List.Elements.{All-contains}
use Rattle.shortest_forest.specs.declared.label.Label.{Label}
use Rattle.steiner_build.specs.Joining.{HasNoGoals}
use Rattle.steiner_build.proofs.JoiningLaws.{not-goal}
use Rattle.steiner_build.proofs.MarkLaws.{IsMarking-start, IsMarking-more, AreOthers-marking}
use Rattle.cert_checker.proofs.growth.mark.Goals as goal

pub loop-f-init : goal.loop-f-init
loop-f-init c = (
  c.begin.new.self,
  c.begin.ensures.labels,
  c.begin.ensures.goals,
  (
    0,
    IsMarking-start c.args.fpgas.now (length c.args.search.now.goals) c.begin.new.self
        (subst HasNoGoals (sym c.begin.ensures.goals) c.requires.none),
  ),
)

pub add_goal-requires-clause-there : goal.add_goal-requires-clause-there
add_goal-requires-clause-there c =
    omega (
      arith,
      c.requires.there c.loop-f.f-index 0 c.loop-f-test.true,
      c.loop-f.invariant.3.1.size,
      ap length c.loop-f.invariant.2,
    )

pub add_goal-requires-clause-unlabelled : goal.add_goal-requires-clause-unlabelled
add_goal-requires-clause-unlabelled c =
    let none : Option Label = None in
    ap (λ (xs : List (Option Label)). get_or xs (get_or c.args.fpgas.now c.loop-f.f-index 0) none)
    (c.loop-f.invariant.3.1.labels ∙ c.loop-f.invariant.1)
    ∙ get_or-replicate (length c.args.search.now.labels) (get_or c.args.fpgas.now c.loop-f.f-index 0) none
    none (omega (arith, c.requires.there c.loop-f.f-index 0 c.loop-f-test.true, c.requires.count))

pub loop-f-preserved : goal.loop-f-preserved
loop-f-preserved c =
    let fpgas = c.args.fpgas.now in
    let i = c.loop-f.f-index in
    let there = c.requires.there i 0 c.loop-f-test.true in
    let marking = c.loop-f.invariant.3.1 in
    let below : get_or fpgas i 0 < length c.loop-f.search.goals = omega (
      arith,
      there,
      marking.size,
      ap length c.loop-f.invariant.2,
    ) in
    let off : get_or c.loop-f.search.goals (get_or fpgas i 0) false ≡ false =
    not-goal c.loop-f.search.goals (get_or fpgas i 0)
    (λ is. let before = (marking.goals (get_or fpgas i 0) is).0 in
    c.requires.distinct before.0 i 0 before.1 c.loop-f-test.true before.2) in (
      c.loop-f.invariant.0,
      c.loop-f.invariant.1,
      c.loop-f.invariant.2,
      (
        c.loop-f.invariant.3.0 + 1,
        IsMarking-more fpgas (length c.args.search.now.goals) i c.loop-f.invariant.0 c.loop-f.search
            c.add_goal.new.self c.loop-f.invariant.3.0 marking
            (λ same'. omega (arith, there, same')) off below c.add_goal.ensures.labels
            c.add_goal.ensures.queue c.add_goal.ensures.goals c.add_goal.ensures.under_way,
      ),
    )

pub returns-clause-goals : goal.returns-clause-goals
returns-clause-goals c = λ f.
    let fpgas = c.args.fpgas.now in
    let others = AreOthers-marking fpgas (length c.args.search.now.goals) c.loop-f.f-index
    c.loop-f.invariant.0 c.loop-f.search c.loop-f.invariant.3.0 c.loop-f.invariant.3.1
    (omega (arith, c.loop-f-test.false, c.loop-f.auto.f-index-end)) f in (
      λ on. (others.0 on).0,
      λ there. others.1 (
        there,
        λ same'. omega (
          arith,
          same',
          All-contains (λ (x : ℕ). x < length c.args.search.now.goals) fpgas f c.requires.there there,
        ),
      ),
    )

pub returns-clause-count : goal.returns-clause-count
returns-clause-count c = c.loop-f.invariant.3.1.size ∙ ap length c.loop-f.invariant.2

pub returns-clause-labels : goal.returns-clause-labels
returns-clause-labels c =
    let none : Option Label = None in
    ap length (c.loop-f.invariant.3.1.labels ∙ c.loop-f.invariant.1)
    ∙ length-replicate (length c.args.search.now.labels) none
