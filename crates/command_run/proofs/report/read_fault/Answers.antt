use Rattle.std.proofs.Common.{◌≡◌, ℕ, List, refl, sym, ap, ◌∙◌}
use Rattle.std.specs.Prelude.{codes}
use Rattle.std.specs.Fmt.{digits}
use Rattle.command_run.specs.Slots.{place}
use Rattle.command_run.specs.Reports.{read_fault_report}
use Rattle.command_run.proofs.report.read_fault.Goals as goal

first : ◌≡◌ {A = List ℕ} (codes "read fault input 1\n") (read_fault_report 1)
unfolding digits
first = refl

second : ◌≡◌ {A = List ℕ} (codes "read fault input 2\n") (read_fault_report 2)
unfolding digits
second = refl

third : ◌≡◌ {A = List ℕ} (codes "read fault input 3\n") (read_fault_report 3)
unfolding digits
third = refl

pub returns-in-In0 : goal.returns-in-In0
returns-in-In0 c = first ∙ ap (λ slot. read_fault_report (place slot)) (sym c.in-In0.is)

pub returns-in-In1 : goal.returns-in-In1
returns-in-In1 c = second ∙ ap (λ slot. read_fault_report (place slot)) (sym c.in-In1.is)

pub returns-in-In2 : goal.returns-in-In2
returns-in-In2 c = third ∙ ap (λ slot. read_fault_report (place slot)) (sym c.in-In2.is)
