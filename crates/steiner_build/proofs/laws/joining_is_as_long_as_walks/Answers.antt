use Rattle.steiner_build.proofs.LengthLaws.{IsWithinJoining-from_first, IsWithinDistances-from_walks}
use Rattle.steiner_build.proofs.laws.joining_is_as_long_as_walks.Goals as goal

pub returns : goal.returns
returns c = record { joining = IsWithinJoining-from_first; distance = IsWithinDistances-from_walks }
