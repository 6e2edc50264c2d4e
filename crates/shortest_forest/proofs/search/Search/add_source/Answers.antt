use Rattle.shortest_forest.proofs.UnderWay.{IsUnderWay-source}
use Rattle.shortest_forest.proofs.search.Search.add_source.Goals as goal

pub returns-clause-under_way : goal.returns-clause-under_way
returns-clause-under_way c =
    IsUnderWay-source c.args.f c.args.self.now c.lower.new.self c.in_ok-lower.ensures.lowered c.requires
