use Rattle.std.proofs.Common.{arith}
use Rattle.shortest_forest.proofs.tests.star_is_seen_from_one_of_its_arms.Goals as goal

pub base_tree-requires-clause-rooted : goal.base_tree-requires-clause-rooted
base_tree-requires-clause-rooted g c = (0, omega arith, omega arith)
