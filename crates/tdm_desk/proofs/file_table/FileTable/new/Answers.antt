use Rattle.std.proofs.Common.{ap}
use Rattle.tdm_desk.specs.FileTable.{files_in}
use Rattle.tdm_desk.proofs.file_table.FileTable.new.Goals as goal

pub returns : goal.returns
unfolding files_in
returns c = ap files_in c.new.ensures.items
