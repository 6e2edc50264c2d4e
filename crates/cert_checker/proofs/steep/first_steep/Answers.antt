use Rattle.std.proofs.Common.{below_more, arith}
use Rattle.cert_checker.specs.Steep.{IsLevel}
use Rattle.cert_checker.proofs.Steeps.{valid_from_level}
use Rattle.cert_checker.proofs.steep.first_steep.Goals as goal

pub loop-potential-preserved : goal.loop-potential-preserved
loop-potential-preserved c =
    below_more (IsLevel c.args.problem.now c.args.cert.now) c.loop-potential.potential
    c.loop-potential.invariant c.in_default.ensures

pub returns-clause-first : goal.returns-clause-first
returns-clause-first c = valid_from_level c.args.problem.now c.args.cert.now c.loop-potential.potential
    (omega arith) c.loop-potential.invariant
