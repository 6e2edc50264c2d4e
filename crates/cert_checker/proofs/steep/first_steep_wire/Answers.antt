use Rattle.std.proofs.Common.{below_more, arith}
use Rattle.std.proofs.lemmas.Bool.{both_ways}
use Rattle.bound_cert.specs.Valid.{IsSteep}
use Rattle.cert_checker.proofs.Steeps.{not_steep_here, level_all}
use Rattle.cert_checker.proofs.steep.first_steep_wire.Goals as goal

pub loop-e-preserved : goal.loop-e-preserved
loop-e-preserved c =
    below_more (λ d. ¬ IsSteep c.args.problem.now c.args.cert.now c.args.p d) c.loop-e.e c.loop-e.invariant
    (not_steep_here c.args.problem.now c.args.cert.now c.args.p c.loop-e.e c.wire.result
    c.potential-potential.result.now c.length.result c.wire.ensures.there
    c.potential-potential.ensures.value c.length.ensures.value
    (λ along. both_ways c.is_steep.result c.if-is_steep.false (c.is_steep.ensures.1 along)))

pub returns : goal.returns
returns c = level_all c.args.problem.now c.args.cert.now c.args.p c.loop-e.e (omega arith) c.loop-e.invariant
