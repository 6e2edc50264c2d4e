use Rattle.std.proofs.Common.{arith}
use Rattle.tdm_problem.specs.Legal.{source_of}
use Rattle.tdm_cli.proofs.BaselineLaws.{source-there}
use Rattle.tdm_cli.proofs.baseline.forests.Goals as goal

pub returns-clause-made : goal.returns-clause-made
returns-clause-made c = λ n h.
    let there = source-there c.args.problem.now c.fpgas-root-end.ensures.board n h in
    c.loop-root.invariant.made (source_of c.args.problem.now n) (omega (
      arith,
      there,
      c.fpgas-root-end.ensures.value,
      c.loop-root-test.false,
    )) (c.in_ok-marks.ensures.marked n h)
