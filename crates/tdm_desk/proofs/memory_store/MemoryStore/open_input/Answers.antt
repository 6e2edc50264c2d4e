use Rattle.std.proofs.Common.{◌∙◌, ap, sym, if◌then◌else◌}
use Rattle.std.specs.Prelude.{is_some}
use Rattle.std.specs.FinMap as map
use Rattle.tdm_desk.specs.Seen.{opened, input_closed}
use Rattle.tdm_desk.specs.Memory.{seen_in_memory}
use Rattle.tdm_desk.proofs.MemoryLaws.{found_in_memory, closed_in_memory, files_told}
use Rattle.tdm_desk.proofs.memory_store.MemoryStore.open_input.Goals as goal

pub returns-in-Ok-clause-ok : goal.returns-in-Ok-clause-ok
returns-in-Ok-clause-ok c =
    found_in_memory c.args.slot c.args.name.now c.place.result c.in-Ok.input _ _ c.place.ensures
    c.in-Ok.ensures c.put_input.ensures
    ∙ ap (λ found. if found then opened c.args.slot c.args.name.now (seen_in_memory c.args.self.now) else
    input_closed c.args.slot (seen_in_memory c.args.self.now))
    (sym c.is_some-found.ensures)

pub returns-in-Ok-clause-found : goal.returns-in-Ok-clause-found
returns-in-Ok-clause-found c = λ files is.
    c.is_some-found.ensures ∙ ap is_some c.in-Ok.ensures ∙ ap (λ f. is_some (map.get f c.args.name.now))
    (files_told c.args.self.now files is)

pub returns-in-Err-clause-err : goal.returns-in-Err-clause-err
returns-in-Err-clause-err c = closed_in_memory c.args.slot c.place-in-Err.result _ _ c.place-in-Err.ensures
    c.put_input-in-Err.ensures
