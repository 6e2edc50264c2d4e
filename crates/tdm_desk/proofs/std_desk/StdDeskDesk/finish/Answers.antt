use Rattle.std.proofs.Common.{◌∙◌}
use Rattle.tdm_desk.proofs.RealLaws.{finished_real, open_output_real}
use Rattle.tdm_desk.proofs.std_desk.StdDeskDesk.finish.Goals as goal

pub close_file-requires : goal.close_file-requires
close_file-requires g c = open_output_real c.args.slot c.place.result c.args.self.now c.place.ensures
    c.requires

pub returns-in-Ok-clause-closed : goal.returns-in-Ok-clause-closed
returns-in-Ok-clause-closed g c = finished_real c.args.slot c.place.result c.args.self.now _ c.place.ensures
    c.close_file.ensures

pub returns-in-Err-clause-closed : goal.returns-in-Err-clause-closed
returns-in-Err-clause-closed g c =
    c.count_write_fault.ensures.seen
    ∙ finished_real c.args.slot c.place.result c.args.self.now _ c.place.ensures c.close_file.ensures
