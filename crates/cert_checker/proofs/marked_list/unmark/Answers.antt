use Rattle.std.proofs.Common.{List, Bool, [], false, set, get_or, refl}
use Rattle.shortest_forest.specs.Labels.{Labels}
use Rattle.steiner_build.proofs.MarkLaws.{IsUnmarking-start, IsUnmarking-more, none-unmarked}
use Rattle.cert_checker.proofs.marked_list.unmark.Goals as goal

abbrev marks-of : List Bool → Labels
marks-of marks = record { labels = []; goals = marks; queue = [] }

pub loop-x-init : goal.loop-x-init
loop-x-init c = IsUnmarking-start c.args.listed.now (marks-of c.args.marks.now.items) c.requires.marked

pub loop-x-preserved : goal.loop-x-preserved
loop-x-preserved c = IsUnmarking-more c.args.listed.now c.loop-x.x-index (marks-of c.args.marks.now.items)
    (marks-of c.loop-x.marks.items)
    (marks-of (set c.loop-x.marks.items (get_or c.args.listed.now c.loop-x.x-index 0) false))
    c.loop-x.invariant refl refl

pub returns-clause-none : goal.returns-clause-none
returns-clause-none c = none-unmarked c.args.listed.now c.loop-x.x-index (marks-of c.args.marks.now.items)
    (marks-of c.loop-x.marks.items) c.loop-x.invariant c.loop-x-test.false

pub returns-clause-count : goal.returns-clause-count
returns-clause-count c = c.loop-x.invariant.size
