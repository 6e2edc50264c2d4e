use Rattle.steiner_build.proofs.LengthLaws.{walk-few}
use Rattle.steiner_build.proofs.laws.walks_are_short.Goals as goal

pub returns : goal.returns
returns c = λ board inside a b es below walk. walk-few board inside a es b below walk
