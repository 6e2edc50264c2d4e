use Rattle.bound_cert.proofs.Spreads.{spread-le_lengths}
use Rattle.bound_cert.proofs.laws.spread.Goals as goal

pub returns : goal.returns
returns c = spread-le_lengths
