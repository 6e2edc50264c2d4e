use Rattle.std.proofs.Common.{[]}
use Rattle.std.proofs.lemmas.Result.{IfOk-weaker, IfErr-weaker}
use Rattle.bound_cert.proofs.read.read_cert.Goals as goal

pub returns-clause-ok : goal.returns-clause-ok
returns-clause-ok c =
    IfOk-weaker c.end.result _ _ (λ cert each. each c.args.problem.now c.args.bytes.now
    (c.in_ok-feed.ensures.at c.args.problem.now [] c.new-reader.ensures.at)) c.end.ensures.ok

pub returns-clause-for_problem : goal.returns-clause-for_problem
returns-clause-for_problem c =
    IfOk-weaker c.end.result _ _ (λ cert each. each c.args.problem.now c.args.bytes.now
    (c.in_ok-feed.ensures.at c.args.problem.now [] c.new-reader.ensures.at)) c.end.ensures.for_problem

pub returns-clause-fault : goal.returns-clause-fault
returns-clause-fault c =
    IfErr-weaker c.end.result _ _ (λ fault each. each c.args.problem.now c.args.bytes.now
    (c.in_ok-feed.ensures.at c.args.problem.now [] c.new-reader.ensures.at)) c.end.ensures.fault
