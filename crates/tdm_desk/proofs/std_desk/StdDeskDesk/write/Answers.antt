use Rattle.std.proofs.Common.{◌∙◌, ap}
use Rattle.tdm_desk.specs.RealDesk.{seen_of_real}
use Rattle.tdm_desk.proofs.RealLaws.{written_real, open_output_real}
use Rattle.tdm_desk.proofs.std_desk.StdDeskDesk.write.Goals as goal

pub write_file-requires : goal.write_file-requires
write_file-requires g c = open_output_real c.args.slot c.place.result c.args.self.now c.place.ensures
    c.requires.is_open

pub returns-in-Ok-clause-ok : goal.returns-in-Ok-clause-ok
returns-in-Ok-clause-ok g c = ap seen_of_real c.write_file.ensures.same
    ∙ written_real c.args.slot _ c.args.self.now
