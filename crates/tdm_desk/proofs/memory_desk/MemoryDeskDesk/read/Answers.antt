use Rattle.std.proofs.Common.{◌∙◌, sym, ap, arith, length, length-take}
use Rattle.tdm_desk.specs.declared.plan.Plan.{Plan}
use Rattle.tdm_desk.proofs.PlanLaws.{reading_counted, reading_failed, reading_worked_in_memory, within_plan}
use Rattle.tdm_desk.proofs.memory_desk.MemoryDeskDesk.read.Goals as goal

pub returns-then-fails_reading-clause-failed : goal.returns-then-fails_reading-clause-failed
returns-then-fails_reading-clause-failed c =
    λ _. reading_failed c.args.self.now _ c.args.slot (sym c.fails_reading.ensures.answer
    ∙ c.if-fails_reading.true) (c.fails_reading.ensures.met c.if-fails_reading.true)

pub returns-then-fails_reading-clause-counted : goal.returns-then-fails_reading-clause-counted
returns-then-fails_reading-clause-counted c =
    reading_counted c.args.self.now _ c.args.slot (sym c.fails_reading.ensures.answer
    ∙ c.if-fails_reading.true) (c.fails_reading.ensures.met c.if-fails_reading.true)

pub returns-clause-counted : goal.returns-clause-counted
returns-clause-counted c = reading_worked_in_memory c.args.self.now _ c.fails_reading.ensures.plan
    (c.fails_reading.ensures.not_met c.if-fails_reading.false)

pub returns-clause-bounded : goal.returns-clause-bounded
returns-clause-bounded c = λ known is. within_plan c.args.self.now.plan c.fails_reading.new.self.plan known
    _ (length c.args.buf.now) (ap (λ (p : Plan). p.most) c.fails_reading.ensures.plan)
    (omega (
      arith,
      c.of-most.ensures.least,
      c.read.ensures.within,
      c.read.auto.buf,
      length-take c.of-most.result c.args.buf.now,
    )) is
