use Rattle.std.proofs.Common.{ap, sym, ◌∙◌, arith}
use Rattle.tdm_problem.specs.Trees.{trees_of}
use Rattle.tdm_problem.specs.Value.{largest, value_of}
use Rattle.tdm_cli.proofs.BestLaws.{IsBest-on_trees, JoinsEachNet-minimal}
use Rattle.tdm_cli.proofs.SharedValues.{trees-of_shared}
use Rattle.tdm_cli.proofs.best.keep_solution.Goals as goal

pub legalise-requires-clause-joined : goal.legalise-requires-clause-joined
legalise-requires-clause-joined c =
    JoinsEachNet-minimal c.args.problem.now c.args.trees.now c.requires.minimal

pub returns-in_ok-best-clause-best : goal.returns-in_ok-best-clause-best
returns-in_ok-best-clause-best c =
    let board = c.args.problem.now in
    let trees = c.args.trees.now in
    let numbers = c.args.numbers.now in
    let made = c.in_ok-best.ensures.ratios in
    IsBest-on_trees board trees c.in_ok-best.field-0 c.args.best.now.solution c.largest_sum-worth.result
    c.args.best.now.value c.args.best.now.certified
    c.requires.best c.requires.minimal c.requires.rising c.requires.few
    (ap trees_of made ∙ trees-of_shared board trees numbers (c.requires.count
    ∙ sym c.requires.minimal.for_board.nets))
    c.in_ok-best.ensures.legal c.in_ok-best.ensures.small
    (c.largest_sum-worth.ensures ∙ ap largest c.requires.sums ∙ sym (ap (value_of board) made))
    (omega (arith, c.if-worth-best.true))
