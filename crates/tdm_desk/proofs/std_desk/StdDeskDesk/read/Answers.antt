use Rattle.std.proofs.Common.{◌∙◌, ap}
use Rattle.tdm_desk.specs.RealDesk.{seen_of_real}
use Rattle.tdm_desk.proofs.RealLaws.{taken_real, no_rest, open_input_real}
use Rattle.tdm_desk.proofs.std_desk.StdDeskDesk.read.Goals as goal

pub read_file-requires : goal.read_file-requires
read_file-requires g c = open_input_real c.args.slot c.place.result c.args.self.now c.place.ensures
    c.requires.is_open

pub returns-in-Ok-clause-ok : goal.returns-in-Ok-clause-ok
returns-in-Ok-clause-ok g c = ap seen_of_real c.read_file.ensures.same
    ∙ taken_real c.args.slot _ c.args.self.now

pub returns-in-Ok-clause-bytes : goal.returns-in-Ok-clause-bytes
returns-in-Ok-clause-bytes g c = λ rest is. no_rest c.args.slot c.args.self.now rest is

pub returns-in-Ok-clause-end : goal.returns-in-Ok-clause-end
returns-in-Ok-clause-end g c = λ rest is. no_rest c.args.slot c.args.self.now rest is
