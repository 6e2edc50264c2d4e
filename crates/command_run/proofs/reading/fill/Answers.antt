use Rattle.command_run.proofs.ReadLaws.{opened-is-open, when-true, when-false, only-taken, only-closed, filled}
use Rattle.command_run.proofs.reading.fill.Goals as goal

pub feed_input-requires-clause-is_open : goal.feed_input-requires-clause-is_open
feed_input-requires-clause-is_open g c =
    opened-is-open _ _ _ _ (when-true _ _ _ _ c.in-Ok-true.field-0-test c.in-Ok-true.ensures.ok)

pub returns-in-Ok-clause-only : goal.returns-in-Ok-clause-only
returns-in-Ok-clause-only g c =
    only-taken _ _ _ _ _ _ (when-true _ _ _ _ c.in-Ok-true.field-0-test c.in-Ok-true.ensures.ok)
    c.in-Ok.ensures.ok

pub returns-in-Err-feed_input-clause-only : goal.returns-in-Err-feed_input-clause-only
returns-in-Err-feed_input-clause-only g c =
    only-taken _ _ _ _ _ _ (when-true _ _ _ _ c.in-Ok-true.field-0-test c.in-Ok-true.ensures.ok)
    c.in-Err-feed_input.ensures.err.1

pub returns-in-Ok-false-clause-only : goal.returns-in-Ok-false-clause-only
returns-in-Ok-false-clause-only g c =
    only-closed _ _ _ (when-false _ _ _ _ c.in-Ok-false.field-0-test c.in-Ok-false.ensures.ok)

pub returns-in-Err-clause-only : goal.returns-in-Err-clause-only
returns-in-Err-clause-only g c = only-closed _ _ _ c.in-Err.ensures.err

pub returns-in-Ok-clause-ok : goal.returns-in-Ok-clause-ok
returns-in-Ok-clause-ok g c = λ _. filled g.R.TextReader.is_at _ _ _ _ _ _ _ _ c.in-Ok-true.field-0-test
    c.in-Ok-true.ensures.found (when-true _ _ _ _ c.in-Ok-true.field-0-test c.in-Ok-true.ensures.ok)
    c.in-Ok.ensures.ok c.in-Ok.ensures.fed
