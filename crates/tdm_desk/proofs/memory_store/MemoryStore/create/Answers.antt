use Rattle.std.proofs.Common.{◌∙◌, ap}
use Rattle.std.proofs.lemmas.Result.{err_from_is_err_and}
use Rattle.tdm_desk.specs.Memory.{seen_in_memory}
use Rattle.tdm_desk.proofs.MemoryLaws.{finished_in_memory, created_in_steps}
use Rattle.tdm_desk.proofs.memory_store.MemoryStore.create.Goals as goal

pub returns-in_err-kept-clause-err : goal.returns-in_err-kept-clause-err
returns-in_err-kept-clause-err c =
    let p = err_from_is_err_and c.from_residual.result c.from_residual.ensures.1 in
    rw p.1 (finished_in_memory c.args.slot c.place.result _ _ c.place.ensures c.put_output.ensures)

pub returns-in_err-put_file-clause-err : goal.returns-in_err-put_file-clause-err
returns-in_err-put_file-clause-err c =
    let p = err_from_is_err_and c.from_residual-in_err-put_file.result
    c.from_residual-in_err-put_file.ensures.1 in
    rw p.1 (ap seen_in_memory c.in_err-put_file.ensures.err
    ∙ finished_in_memory c.args.slot c.place.result _ _ c.place.ensures c.put_output.ensures)

pub returns-clause-ok : goal.returns-clause-ok
returns-clause-ok c =
    created_in_steps c.args.slot c.args.name.now _ c.place.result c.place-2.result _ _ _ _ c.place.ensures
    c.place-2.ensures
    c.in_ok-kept.ensures.ok c.put_output.ensures c.in_ok-put_file.ensures.ok c.put_output-2.ensures
