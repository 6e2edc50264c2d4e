use Rattle.std.proofs.Common.{◌∙◌, sym}
use Rattle.tdm_desk.proofs.PlanLaws.{writing_counted, writing_failed, writing_worked_in_memory}
use Rattle.tdm_desk.proofs.memory_desk.MemoryDeskDesk.finish.Goals as goal

pub returns-then-fails-clause-failed : goal.returns-then-fails-clause-failed
returns-then-fails-clause-failed c =
    λ _. writing_failed c.args.self.now _ (sym c.fails_writing-fails.ensures.answer ∙ c.if-fails.true)
    (c.fails_writing-fails.ensures.met c.if-fails.true)

pub returns-then-fails-clause-counted : goal.returns-then-fails-clause-counted
returns-then-fails-clause-counted c =
    writing_counted c.args.self.now _ (sym c.fails_writing-fails.ensures.answer ∙ c.if-fails.true)
    (c.fails_writing-fails.ensures.met c.if-fails.true)

pub returns-clause-counted : goal.returns-clause-counted
returns-clause-counted c = writing_worked_in_memory c.args.self.now _ c.fails_writing-fails.ensures.plan
    (c.fails_writing-fails.ensures.not_met c.if-fails.false)
