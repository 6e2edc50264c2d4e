use Rattle.std.proofs.Common.{arith}
use Rattle.bound_cert.proofs.OneBound.{one_bound}
use Rattle.tdm_cli.proofs.best.keep_checked.Goals as goal

pub returns-clause-best : goal.returns-clause-best
returns-clause-best c = c.keep_greater.ensures.best c.args.problem.now (record {
  within = c.requires.within;
  for_board = c.requires.for_problem;
  few = c.requires.few;
  valid = c.requires.valid;
  is_bound = c.in_ok-bound.ensures.is_bound;
  lower = c.in_ok-bound.ensures.lower;
}) c.requires.best

pub returns-clause-bound : goal.returns-clause-bound
returns-clause-bound c other is =
    omega (
      arith,
      c.keep_greater.ensures.bound,
      one_bound c.args.problem.now c.args.cert other c.in_ok-bound.bound is
          c.in_ok-bound.ensures.is_bound,
    )
