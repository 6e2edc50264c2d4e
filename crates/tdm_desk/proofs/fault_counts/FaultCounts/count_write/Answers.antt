use Rattle.tdm_desk.proofs.CountLaws.{counts-write}
use Rattle.tdm_desk.proofs.fault_counts.FaultCounts.count_write.Goals as goal

pub returns : goal.returns
returns c =
    counts-write c.raised-self-inside.result c.self.inside.reading c.self.inside.writing c.args.self.now
    c.self.view_is
    c.raised-self-inside.ensures
