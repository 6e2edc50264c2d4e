use Rattle.std.proofs.Common.{length}
use Rattle.shortest_forest.proofs.UnderWay.{IsUnderWay-begun}
use Rattle.shortest_forest.proofs.search.Search.begin.Goals as goal

pub returns-clause-begun : goal.returns-clause-begun
returns-clause-begun c =
    IsUnderWay-begun c.restart.new.self (length c.args.self.now.labels) c.restart.ensures.labels
    c.restart.ensures.queue
