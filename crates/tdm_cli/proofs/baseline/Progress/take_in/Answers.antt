use Rattle.std.proofs.Common.{◌+◌, subst, sym}
use Rattle.std.specs.List.Sorted.{IsStrictlyIncreasing}
use Rattle.tdm_problem.specs.Walk.{IsConnectable}
use Rattle.tdm_problem.specs.Legal.{terminals_of, source_of}
use Rattle.shortest_forest.specs.Baseline.{IsBaseTree}
use Rattle.tdm_cli.specs.Progress.{IsProgress}
use Rattle.tdm_cli.proofs.ProgressLaws.{progress-missing}
use Rattle.tdm_cli.proofs.BaselineLaws.{base-at}
use Rattle.tdm_cli.proofs.baseline.Progress.take_in.Goals as goal

pub keep-requires-clause-rising : goal.keep-requires-clause-rising
keep-requires-clause-rising c =
    let base = c.in_ok-build.ensures.base c.if-branch.true c.args.problem.now c.requires.board in
    subst IsStrictlyIncreasing (sym c.wires.ensures) base.rising

pub returns-in_ok-push-clause-next : goal.returns-in_ok-push-clause-next
returns-in_ok-push-clause-next c =
    let apart = c.in_ok-build.ensures.none c.if-branch.false c.args.problem.now c.requires.board in
    let next = progress-missing c.args.problem.now c.args.n _ _ _ c.requires.so_far
    (λ joined. apart (subst (IsConnectable c.args.problem.now) c.net.ensures.value joined)) in
    subst (IsProgress c.args.problem.now (c.args.n + 1) c.args.self.now.trees c.args.self.now.used)
    (sym c.in_ok-push.ensures.items) next

pub returns-in_ok-keep-clause-next : goal.returns-in_ok-keep-clause-next
returns-in_ok-keep-clause-next c =
    let board = c.args.problem.now in
    let base = c.in_ok-build.ensures.base c.if-branch.true board c.requires.board in
    let joined = c.in_ok-build.ensures.some c.if-branch.true board c.requires.board in
    c.in_ok-keep.ensures board c.args.n c.requires.so_far
    (subst (IsConnectable board) (sym c.net.ensures.value) joined)
    (subst (IsBaseTree board (source_of board c.args.n) (terminals_of board c.args.n)) (sym c.wires.ensures)
    (base-at board c.args.n c.args.forest.now.root c.net.result.now _ c.requires.root c.net.ensures.value
    base))
