use Rattle.std.proofs.Common.{◌∙◌}
use Rattle.tdm_desk.proofs.RealLaws.{created_real, finished_real}
use Rattle.tdm_desk.proofs.std_desk.StdDeskDesk.create.Goals as goal

pub returns-in-Ok-clause-ok : goal.returns-in-Ok-clause-ok
returns-in-Ok-clause-ok g c = created_real c.args.slot c.args.name.now c.place.result c.args.self.now
    _ c.place.ensures c.put_output.ensures

pub returns-in-Err-clause-err : goal.returns-in-Err-clause-err
returns-in-Err-clause-err g c =
    c.count_write_fault.ensures.seen
    ∙ finished_real c.args.slot c.place-in-Err.result c.args.self.now _ c.place-in-Err.ensures
    c.put_output-in-Err.ensures
