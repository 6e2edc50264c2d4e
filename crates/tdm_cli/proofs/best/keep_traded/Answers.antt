use Rattle.std.proofs.Common.{◌≡◌, arith}
use Rattle.tdm_problem.specs.Value.{value_of}
use Rattle.worst_refine.specs.Traded.{IsBetter}
use Rattle.tdm_cli.proofs.BestLaws.{IsBest-on_trees, JoinsEachNet-minimal, short-ratios}
use Rattle.tdm_cli.proofs.best.keep_traded.Goals as goal

pub trade_from-requires-clause-joined : goal.trade_from-requires-clause-joined
trade_from-requires-clause-joined c =
    JoinsEachNet-minimal c.args.problem.now c.args.trees.now c.requires.minimal

pub returns-in-Some-clause-best : goal.returns-in-Some-clause-best
returns-in-Some-clause-best c =
    let traded = c.in-Some.traded in
    let better : IsBetter c.args.problem.now c.args.trees.now c.args.best.now.value traded.solution =
    rw c.in-Some.is at c.in_ok-found.ensures.better in
    let worth : traded.value ≡ value_of c.args.problem.now traded.solution =
    rw c.in-Some.is at c.in_ok-found.ensures.value in
    IsBest-on_trees c.args.problem.now c.args.trees.now traded.solution c.args.best.now.solution
    traded.value c.args.best.now.value c.args.best.now.certified
    c.requires.best c.requires.minimal c.requires.rising c.requires.few better.wires better.legal
    (short-ratios traded.solution better.small) worth (omega (arith, better.below, worth))
