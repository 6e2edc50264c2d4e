use Rattle.std.proofs.Common.{◌≡◌, ap, subst}
use Rattle.tdm_desk.specs.Counts.{Counts, read_counted}
use Rattle.tdm_desk.specs.RealDesk.{RealDesk, counts_of_real, never}
use Rattle.tdm_desk.proofs.RealLaws.{seen_counted}
use Rattle.tdm_desk.proofs.CountLaws.{after_read_fault, read_fault_failed}
use Rattle.tdm_desk.proofs.std_desk.StdDesk.count_read_fault.Goals as goal

-- the fault was counted
fault : (g : _) (c : goal.After-count_read g)
    → c.count_read.new.self ≡ read_counted c.args.slot c.args.self.now.counts
fault g c = subst (λ (counts : Counts). c.count_read.new.self ≡ read_counted c.args.slot counts)
    (ap (λ (d : RealDesk). d.counts) c.self.view_is) c.count_read.ensures

pub returns-clause-seen : goal.returns-clause-seen
returns-clause-seen g c =
    seen_counted _ c.args.self.now _ (ap (λ (d : RealDesk). record d { counts = c.count_read.new.self })
    c.self.view_is)

pub returns-clause-failed : goal.returns-clause-failed
returns-clause-failed g c = read_fault_failed counts_of_real never c.args.self.now _ (λ is. is) c.args.slot
    (fault g c)

pub returns-clause-own : goal.returns-clause-own
returns-clause-own g c = fault g c

pub returns-clause-counted : goal.returns-clause-counted
returns-clause-counted g c = after_read_fault counts_of_real never c.args.self.now _ (λ is. is) c.args.slot
    (fault g c)
