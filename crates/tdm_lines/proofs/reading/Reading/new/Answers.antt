use Rattle.tdm_lines.proofs.KeepsLemmas.{stands-start}
use Rattle.tdm_lines.proofs.reading.Reading.new.Goals as goal

pub returns-clause-stands : goal.returns-clause-stands
returns-clause-stands g c = λ read none. stands-start c.new.result c.args.grammar c.new.ensures.stands read
    none
