use Rattle.std.proofs.Common.{◌∙◌, ap}
use Rattle.tdm_desk.proofs.SeenLaws.{output_is_open-output_closed}
use Rattle.tdm_desk.specs.Seen.{output_is_open}
use Rattle.command_run.proofs.ResultLaws.{on-ok, on-err}
use Rattle.command_run.proofs.OutputLaws.{opened-is-open, still-is-open, begun-not, begun-part, begun-whole, leaves-written, leaves-closed, writes-closed, writes-written, writes-twice}
use Rattle.command_run.proofs.writing.write_file.Goals as goal

pub returns-in-Err-clause-err : goal.returns-in-Err-clause-err
returns-in-Err-clause-err g c = begun-not _ _ _ _ _ c.in-Err.ensures.err

pub write-requires : goal.write-requires
write-requires g c = opened-is-open _ _ _ _ c.in_default.ensures.ok

pub returns-in-Err-write-clause-err : goal.returns-in-Err-write-clause-err
returns-in-Err-write-clause-err g c =
    begun-part _ _ _ _ _ _ c.in_default.ensures.ok c.in-Err-write.ensures.err

pub finish-requires : goal.finish-requires
finish-requires g c = still-is-open _ _ _ _ _ _ c.in_default.ensures.ok c.in_default-write.ensures.ok

pub returns-clause-ok : goal.returns-clause-ok
returns-clause-ok g c =
    on-ok _ _ (leaves-closed _ _ _ _ _ _ (leaves-written _ _ _ _ _ _ c.in_default.ensures.ok
    c.in_default-write.ensures.ok) c.finish.ensures.closed)

pub returns-clause-err : goal.returns-clause-err
returns-clause-err g c =
    on-err _ _ (begun-whole
    _ _ _ _ (leaves-closed _ _ _ _ _ _ (leaves-written _ _ _ _ _ _ c.in_default.ensures.ok
    c.in_default-write.ensures.ok) c.finish.ensures.closed))

pub returns-in-Err-clause-only : goal.returns-in-Err-clause-only
returns-in-Err-clause-only g c = writes-closed _ _ _ c.in-Err.ensures.err

pub returns-in-Err-write-clause-only : goal.returns-in-Err-write-clause-only
returns-in-Err-write-clause-only g c =
    writes-written _ _ _ _ _ _ c.in_default.ensures.ok c.in-Err-write.ensures.err.1

pub returns-clause-only : goal.returns-clause-only
returns-clause-only g c =
    writes-twice _ _ _ _ _ (writes-written _ _ _ _ _ _ c.in_default.ensures.ok c.in_default-write.ensures.ok)
    (writes-closed _ _ _ c.finish.ensures.closed)

pub returns-clause-closed : goal.returns-clause-closed
returns-clause-closed g c = on-ok _ _ (ap (output_is_open c.args.slot) c.finish.ensures.closed
    ∙ output_is_open-output_closed c.args.slot _)
