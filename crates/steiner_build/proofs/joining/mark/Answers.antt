use Rattle.std.proofs.Common.{arith, sym, ◌∙◌}
use Rattle.steiner_build.proofs.MarkLaws.{IsMarking-start, IsMarking-more, AreOthers-marking}
use Rattle.steiner_build.proofs.joining.mark.Goals as goal

pub loop-t-init : goal.loop-t-init
loop-t-init c = IsMarking-start c.args.terminals.now c.args.start c.args.search.now c.requires.none

pub is_goal-requires : goal.is_goal-requires
is_goal-requires c = omega (
  arith,
  c.requires.there c.loop-t.t-index 0 c.loop-t-test.true,
  c.loop-t.invariant.size,
)

pub returns-clause-goals : goal.returns-clause-goals
returns-clause-goals c =
    AreOthers-marking c.args.terminals.now c.args.start c.loop-t.t-index c.args.search.now c.loop-t.search
    c.loop-t.others c.loop-t.invariant (omega arith)

pub overflow_add-others : goal.overflow_add-others
overflow_add-others c = omega (arith, c.loop-t.invariant.few)

pub loop-t-preserved : goal.loop-t-preserved
loop-t-preserved c =
    IsMarking-more c.args.terminals.now c.args.start c.loop-t.t-index c.args.search.now c.loop-t.search
    c.add_goal.new.self c.loop-t.others c.loop-t.invariant
    c.if-t-start.false (sym c.is_goal.ensures ∙ c.if-is_goal.false)
    (omega (arith, c.requires.there c.loop-t.t-index 0 c.loop-t-test.true, c.loop-t.invariant.size))
    c.add_goal.ensures.labels c.add_goal.ensures.queue c.add_goal.ensures.goals
    c.add_goal.ensures.under_way
