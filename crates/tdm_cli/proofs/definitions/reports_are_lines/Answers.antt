use Rattle.std.proofs.Common.{refl}
use Rattle.std.specs.Fmt.{digits}
use Rattle.tdm_cli.proofs.definitions.reports_are_lines.Goals as goal

pub returns-clause-common : goal.returns-clause-common
unfolding digits
returns-clause-common c = refl

pub returns-clause-refused : goal.returns-clause-refused
unfolding digits
returns-clause-refused c = refl

pub returns-clause-routed : goal.returns-clause-routed
unfolding digits
returns-clause-routed c = refl

pub returns-clause-judged : goal.returns-clause-judged
unfolding digits
returns-clause-judged c = refl

pub returns-clause-checked : goal.returns-clause-checked
unfolding digits
returns-clause-checked c = refl
