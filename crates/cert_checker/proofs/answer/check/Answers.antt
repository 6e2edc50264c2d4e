use Rattle.std.proofs.Common.{rules}
use Rattle.bound_cert.specs.Valid.{IsValid}
use Rattle.cert_checker.specs.declared.answer.CheckAnswer.TheVariants.{Accepted, Rejected}
use Rattle.cert_checker.proofs.AnswerLaws.{answer_unique}
use Rattle.cert_checker.proofs.answer.check.Goals as goal

pub returns-in-Some-clause-only : goal.returns-in-Some-clause-only
returns-in-Some-clause-only c = λ other right. answer_unique c.args.problem.now c.args.cert.now
    (Rejected c.in-Some.steep) other c.in-Some.ensures.first right

pub returns-clause-only : goal.returns-clause-only
returns-clause-only c = λ other right.
    let valid : IsValid c.args.problem.now c.args.cert.now = search rules in
    answer_unique c.args.problem.now c.args.cert.now (Accepted c.bound.result) other (
      valid,
      c.bound.ensures.value,
    ) right
