use Rattle.contest_input.proofs.ReadsBack.{text_reads_back}
use Rattle.contest_input.proofs.Size.{never_too_long}
use Rattle.contest_input.proofs.law.what_is_written_reads_back.Goals as goal

pub returns-clause-short : goal.returns-clause-short
returns-clause-short c = never_too_long

pub returns-clause-same : goal.returns-clause-same
returns-clause-same c = text_reads_back
