use Rattle.std.proofs.Common.{◌∙◌, sym}
use Rattle.tdm_desk.proofs.PlanLaws.{reading_counted, reading_failed, reading_worked_in_memory}
use Rattle.tdm_desk.proofs.memory_desk.MemoryDeskDesk.open_input.Goals as goal

pub returns-then-fails_reading-clause-failed : goal.returns-then-fails_reading-clause-failed
returns-then-fails_reading-clause-failed c =
    λ _. reading_failed c.args.self.now _ c.args.slot (sym c.fails_reading.ensures.answer
    ∙ c.if-fails_reading.true) (c.fails_reading.ensures.met c.if-fails_reading.true)

pub returns-then-fails_reading-clause-counted : goal.returns-then-fails_reading-clause-counted
returns-then-fails_reading-clause-counted c =
    reading_counted c.args.self.now _ c.args.slot (sym c.fails_reading.ensures.answer
    ∙ c.if-fails_reading.true) (c.fails_reading.ensures.met c.if-fails_reading.true)

pub returns-in_err-found-clause-counted : goal.returns-in_err-found-clause-counted
returns-in_err-found-clause-counted c =
    reading_worked_in_memory c.args.self.now _ c.fails_reading.ensures.plan
    (c.fails_reading.ensures.not_met c.if-fails_reading.false)

pub returns-clause-counted : goal.returns-clause-counted
returns-clause-counted c = reading_worked_in_memory c.args.self.now _ c.fails_reading.ensures.plan
    (c.fails_reading.ensures.not_met c.if-fails_reading.false)
