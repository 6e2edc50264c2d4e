use Rattle.std.proofs.Common.{◌≡◌, ap, subst}
use Rattle.tdm_desk.specs.Counts.{Counts, write_counted}
use Rattle.tdm_desk.specs.RealDesk.{RealDesk, counts_of_real, never}
use Rattle.tdm_desk.proofs.RealLaws.{seen_counted}
use Rattle.tdm_desk.proofs.CountLaws.{after_write_fault, write_fault_failed}
use Rattle.tdm_desk.proofs.std_desk.StdDesk.count_write_fault.Goals as goal

-- the fault was counted
fault : (g : _) (c : goal.After-count_write g) → c.count_write.new.self ≡ write_counted c.args.self.now.counts
fault g c = subst (λ (counts : Counts). c.count_write.new.self ≡ write_counted counts)
    (ap (λ (d : RealDesk). d.counts) c.self.view_is) c.count_write.ensures

pub returns-clause-seen : goal.returns-clause-seen
returns-clause-seen g c =
    seen_counted _ c.args.self.now _ (ap (λ (d : RealDesk). record d { counts = c.count_write.new.self })
    c.self.view_is)

pub returns-clause-failed : goal.returns-clause-failed
returns-clause-failed g c = write_fault_failed counts_of_real never c.args.self.now _ (λ is. is) (fault g c)

pub returns-clause-own : goal.returns-clause-own
returns-clause-own g c = fault g c

pub returns-clause-counted : goal.returns-clause-counted
returns-clause-counted g c = after_write_fault counts_of_real never c.args.self.now _ (λ is. is) (fault g c)
