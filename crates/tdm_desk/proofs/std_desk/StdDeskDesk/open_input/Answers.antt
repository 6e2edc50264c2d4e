use Rattle.std.proofs.Common.{◌∙◌}
use Rattle.tdm_desk.proofs.RealLaws.{opened_real, closed_real, no_files}
use Rattle.tdm_desk.proofs.std_desk.StdDeskDesk.open_input.Goals as goal

pub returns-then-eq-clause-ok : goal.returns-then-eq-clause-ok
returns-then-eq-clause-ok g c =
    closed_real c.args.slot c.place-in-Err.result c.args.self.now _ c.place-in-Err.ensures
    c.put_input-in-Err.ensures

pub returns-then-eq-clause-found : goal.returns-then-eq-clause-found
returns-then-eq-clause-found g c = λ files is. no_files c.args.self.now files is

pub returns-in-Ok-clause-ok : goal.returns-in-Ok-clause-ok
returns-in-Ok-clause-ok g c = opened_real c.args.slot c.args.name.now c.place.result c.args.self.now
    _ c.place.ensures c.put_input.ensures

pub returns-in-Ok-clause-found : goal.returns-in-Ok-clause-found
returns-in-Ok-clause-found g c = λ files is. no_files c.args.self.now files is

pub returns-else-eq-clause-err : goal.returns-else-eq-clause-err
returns-else-eq-clause-err g c =
    c.count_read_fault.ensures.seen
    ∙ closed_real c.args.slot c.place-in-Err.result c.args.self.now _ c.place-in-Err.ensures
    c.put_input-in-Err.ensures
