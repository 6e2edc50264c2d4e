use Rattle.std.proofs.Common.{◌∙◌}
use Rattle.tdm_problem.proofs.Roots.{root_of-is}
use Rattle.tdm_cli.proofs.numbers.root.Goals as goal

pub returns : goal.returns
returns c = c.from.ensures ∙ root_of-is c.args.number c.isqrt.result c.isqrt.ensures.square_at_most
    c.isqrt.ensures.next_square_above
