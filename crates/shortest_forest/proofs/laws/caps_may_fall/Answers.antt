use Rattle.shortest_forest.proofs.UnderWay.{IsUnderWay-falls}
use Rattle.shortest_forest.proofs.laws.caps_may_fall.Goals as goal

pub returns : goal.returns
returns c = IsUnderWay-falls
