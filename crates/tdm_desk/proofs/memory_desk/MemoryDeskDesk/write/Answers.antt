use Rattle.std.proofs.Common.{◌∙◌, sym, ap, arith, length}
use Rattle.tdm_desk.specs.declared.plan.Plan.{Plan}
use Rattle.tdm_desk.proofs.PlanLaws.{writing_counted, writing_failed, writing_worked_in_memory, within_plan}
use Rattle.tdm_desk.proofs.memory_desk.MemoryDeskDesk.write.Goals as goal

pub returns-then-fails_writing-clause-failed : goal.returns-then-fails_writing-clause-failed
returns-then-fails_writing-clause-failed c =
    λ _. writing_failed c.args.self.now _ (sym c.fails_writing.ensures.answer ∙ c.if-fails_writing.true)
    (c.fails_writing.ensures.met c.if-fails_writing.true)

pub returns-then-fails_writing-clause-counted : goal.returns-then-fails_writing-clause-counted
returns-then-fails_writing-clause-counted c =
    writing_counted c.args.self.now _ (sym c.fails_writing.ensures.answer ∙ c.if-fails_writing.true)
    (c.fails_writing.ensures.met c.if-fails_writing.true)

pub returns-in_err-write-clause-counted : goal.returns-in_err-write-clause-counted
returns-in_err-write-clause-counted c =
    writing_worked_in_memory c.args.self.now _ c.fails_writing.ensures.plan
    (c.fails_writing.ensures.not_met c.if-fails_writing.false)

pub returns-clause-counted : goal.returns-clause-counted
returns-clause-counted c = writing_worked_in_memory c.args.self.now _ c.fails_writing.ensures.plan
    (c.fails_writing.ensures.not_met c.if-fails_writing.false)

pub returns-clause-bounded : goal.returns-clause-bounded
returns-clause-bounded c = λ known is. within_plan c.args.self.now.plan c.fails_writing.new.self.plan known
    _ (length c.args.piece.now) (ap (λ (p : Plan). p.most) c.fails_writing.ensures.plan)
    (omega (arith, c.of-count.ensures.least)) is
