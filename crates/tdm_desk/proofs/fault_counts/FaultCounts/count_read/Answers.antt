use Rattle.std.proofs.Common.{◌∙◌, ap}
use Rattle.tdm_desk.specs.Counts.{one_more}
use Rattle.tdm_desk.proofs.CountLaws.{counts-read}
use Rattle.tdm_desk.proofs.fault_counts.FaultCounts.count_read.Goals as goal

pub returns : goal.returns
returns c =
    counts-read c.args.slot c.place-place.result c.raised-count.result c.self.inside.reading
    _ c.self.inside.writing c.args.self.now
    c.place-place.ensures c.put.ensures c.self.view_is (c.raised-count.ensures ∙ ap one_more c.get.ensures)
