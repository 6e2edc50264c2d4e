use Rattle.tdm_desk.proofs.RealLaws.{said_real}
use Rattle.tdm_desk.proofs.std_desk.StdDeskDesk.say.Goals as goal

pub returns-in-Ok-clause-ok : goal.returns-in-Ok-clause-ok
returns-in-Ok-clause-ok g c = said_real _ c.args.self.now
