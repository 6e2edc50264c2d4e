use Rattle.flat_rows.proofs.CutRows.{start_of_row-after}
use Rattle.flat_rows.proofs.rows.start_of.Goals as goal

pub returns-else-i-eq0 : goal.returns-else-i-eq0
returns-else-i-eq0 c = start_of_row-after 0 c.args.ends.now c.args.i c.if-i-eq0.false c.requires
