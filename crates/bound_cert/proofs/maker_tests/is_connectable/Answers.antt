use Rattle.std.proofs.Common.{below_more, arith}
use Rattle.tdm_problem.specs.Legal.{terminals_of}
use Rattle.tdm_problem.specs.Walk.{IsConnectable}
use Rattle.bound_cert.proofs.maker_tests.is_connectable.Goals as goal

pub loop-n-preserved : goal.loop-n-preserved
loop-n-preserved c =
    below_more (λ k. IsConnectable c.args.problem.now (terminals_of c.args.problem.now k)) c.loop-n.n
    c.loop-n.invariant (c.in_ok-is_joined.ensures c.if-not-branch.false)

pub returns : goal.returns
returns c joined n below = c.loop-n.invariant n (omega arith)
