use Rattle.tdm_cli.proofs.RequestLaws.{asked, nothing-asked}
use Rattle.tdm_cli.proofs.EndedLaws.{run-called, run-read_fault, run-write_fault, run-told, run-usage, run-closed}
use Rattle.tdm_cli.proofs.SlotLaws.{run-slots}
use Rattle.tdm_cli.proofs.ReadOutLaws.{run-read}
use Rattle.tdm_cli.proofs.WorthLaws.{run-worth, bounds-hold}
use Rattle.tdm_cli.proofs.tdm.tdm.Goals as goal

pub returns-clause-answers : goal.returns-clause-answers
returns-clause-answers g c = λ request files asks told.
    run-called _ _ _ request _ _ _ (asked _ _ c.run_words.ensures.ran request asks) files told

pub returns-clause-worth : goal.returns-clause-worth
returns-clause-worth g c = λ request files asks told.
    run-worth _ _ _ request _ _ _ (asked _ _ c.run_words.ensures.ran request asks) files told

pub returns-clause-bounds_hold : goal.returns-clause-bounds_hold
returns-clause-bounds_hold g c = bounds-hold

pub returns-clause-ends : goal.returns-clause-ends
returns-clause-ends g c = asked _ _ c.run_words.ensures.ran

pub returns-clause-usage : goal.returns-clause-usage
returns-clause-usage g c = λ usage.
    let ran = c.run_words.ensures.ran in
    nothing-asked _ ran.0 ran.1 (run-usage _ _ _ ran.0 _ _ _ ran.2 usage)

pub returns-clause-slots : goal.returns-clause-slots
returns-clause-slots g c =
    λ request asks. run-slots _ _ _ request _ _ _ (asked _ _ c.run_words.ensures.ran request asks)

pub returns-clause-finished : goal.returns-clause-finished
returns-clause-finished g c = λ request asks ok.
    let ends = asked _ _ c.run_words.ensures.ran request asks in
    record { read = run-read _ _ _ request _ _ _ ends ok; closed = run-closed _ _ _ request _ _ _ ends ok }

pub returns-clause-read_fault : goal.returns-clause-read_fault
returns-clause-read_fault g c = λ request asks fault.
    run-read_fault _ _ _ request _ _ _ (asked _ _ c.run_words.ensures.ran request asks) fault

pub returns-clause-write_fault : goal.returns-clause-write_fault
returns-clause-write_fault g c = λ fault.
    let ran = c.run_words.ensures.ran in
    run-write_fault _ _ _ ran.0 _ _ _ ran.2 fault

pub returns-clause-told : goal.returns-clause-told
returns-clause-told g c = let ran = c.run_words.ensures.ran in run-told _ _ _ ran.0 _ _ _ ran.2

pub returns-clause-steady : goal.returns-clause-steady
returns-clause-steady g c = λ steady.
    let ran = c.run_words.ensures.ran in (
      (λ fault. (run-read_fault _ _ _ ran.0 _ _ _ ran.2 fault).failed.unsteady steady),
      (λ fault. (run-write_fault _ _ _ ran.0 _ _ _ ran.2 fault).unsteady steady),
    )
