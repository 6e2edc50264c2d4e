use Rattle.steiner_build.proofs.MinimalLaws.{growth-law, path-law}
use Rattle.steiner_build.proofs.laws.tree_grows_by_a_path.Goals as goal

pub returns : goal.returns
returns c = record { growth = growth-law; path = path-law }
