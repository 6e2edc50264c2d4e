use Rattle.solution_text.proofs.ReadsBack.{text_reads_back}
use Rattle.solution_text.proofs.laws.reads_back.Goals as goal

pub returns : goal.returns
returns c = text_reads_back
