use Rattle.std.proofs.Common.{arith}
use Rattle.steiner_build.proofs.MarkLaws.{IsUnmarking-start, IsUnmarking-more, none-unmarked}
use Rattle.cert_checker.proofs.growth.unmark.Goals as goal

pub loop-f-init : goal.loop-f-init
loop-f-init c = IsUnmarking-start c.args.fpgas.now c.args.search.now c.requires.goals

pub remove_goal-requires : goal.remove_goal-requires
remove_goal-requires c = omega (
  arith,
  c.requires.there c.loop-f.f-index 0 c.loop-f-test.true,
  c.loop-f.invariant.size,
)

pub loop-f-preserved : goal.loop-f-preserved
loop-f-preserved c = IsUnmarking-more c.args.fpgas.now c.loop-f.f-index c.args.search.now c.loop-f.search
    c.remove_goal.new.self c.loop-f.invariant c.remove_goal.ensures.labels c.remove_goal.ensures.goals

pub returns-clause-none : goal.returns-clause-none
returns-clause-none c = none-unmarked c.args.fpgas.now c.loop-f.f-index c.args.search.now c.loop-f.search
    c.loop-f.invariant c.loop-f-test.false
