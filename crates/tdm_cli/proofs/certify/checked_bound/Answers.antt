use Rattle.std.proofs.Common.{subst}
use Rattle.bound_cert.proofs.OneBound.{one_bound, chosen_bound}
use Rattle.bound_cert.specs.Bound.{bound_of}
use Rattle.cert_checker.specs.Answer.{IsAnswer}
use Rattle.tdm_cli.proofs.certify.checked_bound.Goals as goal

pub returns-clause-is_bound : goal.returns-clause-is_bound
returns-clause-is_bound c =
    (subst (IsAnswer c.args.problem.now c.args.cert.now) c.in-Accepted.is c.in_ok-bound.ensures.answer).1

pub returns-clause-chosen : goal.returns-clause-chosen
returns-clause-chosen c chosen =
    let board = c.args.problem.now in
    let cert = c.args.cert.now in
    let answer = subst (IsAnswer board cert) c.in-Accepted.is c.in_ok-bound.ensures.answer in
    one_bound board cert _ (bound_of board cert) answer.1 (chosen_bound board cert chosen)
