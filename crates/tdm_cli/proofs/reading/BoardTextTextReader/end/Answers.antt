use Rattle.tdm_cli.proofs.reading.BoardTextTextReader.end.Goals as goal

pub returns-in-Err-Refused-clause-fault : goal.returns-in-Err-Refused-clause-fault
returns-in-Err-Refused-clause-fault c = rw c.in-Err-Refused.field-0-is at c.in-Err-Refused.ensures.refused
