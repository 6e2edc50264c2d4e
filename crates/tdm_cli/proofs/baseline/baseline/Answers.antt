use Rattle.tdm_cli.proofs.BaselineLaws.{base-trees-for, base-joins, baseline-of}
use Rattle.tdm_cli.proofs.baseline.baseline.Goals as goal

pub uniform_solution-requires-clause-trees_for : goal.uniform_solution-requires-clause-trees_for
uniform_solution-requires-clause-trees_for c =
    base-trees-for c.args.problem.now c.requires.board c.args.trees.now c.requires.base

pub uniform_solution-requires-clause-joined : goal.uniform_solution-requires-clause-joined
uniform_solution-requires-clause-joined c =
    base-joins c.args.problem.now c.requires.board c.args.trees.now c.requires.base

pub returns : goal.returns
returns c = baseline-of c.args.problem.now c.requires.board c.args.trees.now c.requires.base c.requires.joined
    c.requires.few _ c.in_ok-solution.ensures.ratios c.in_ok-solution.ensures.legal
    c.in_ok-solution.ensures.small c.in_ok-solution.ensures.rising
