use Rattle.std.proofs.Common.{◌∙◌, ap, map}
use Rattle.command_run.proofs.OutputLaws.{puts-same}
use Rattle.command_run.proofs.concluding.conclude_unread.Goals as goal

pub returns : goal.returns
returns g c =
    puts-same _ _ _ _ _ _ _ _ _ _ _ (ap (map g.T.OutputText.text) (c.as_slice.ensures.value
    ∙ c.new-none.ensures.items)) c.read_fault.ensures c.read_fault-2.ensures c.put_out.ensures
