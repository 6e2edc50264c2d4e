use Rattle.std.proofs.Common.{arith}
use Rattle.steiner_build.proofs.MarkLaws.{IsUnmarking-start, IsUnmarking-more, none-unmarked}
use Rattle.steiner_build.proofs.joining.unmark.Goals as goal

pub loop-t-init : goal.loop-t-init
loop-t-init c = IsUnmarking-start c.args.terminals.now c.args.search.now c.requires.goals

pub remove_goal-requires : goal.remove_goal-requires
remove_goal-requires c = omega (
  arith,
  c.requires.there c.loop-t.t-index 0 c.loop-t-test.true,
  c.loop-t.invariant.size,
)

pub loop-t-preserved : goal.loop-t-preserved
loop-t-preserved c = IsUnmarking-more c.args.terminals.now c.loop-t.t-index c.args.search.now c.loop-t.search
    c.remove_goal.new.self c.loop-t.invariant c.remove_goal.ensures.labels c.remove_goal.ensures.goals

pub returns-clause-none : goal.returns-clause-none
returns-clause-none c = none-unmarked c.args.terminals.now c.loop-t.t-index c.args.search.now c.loop-t.search
    c.loop-t.invariant c.loop-t-test.false
