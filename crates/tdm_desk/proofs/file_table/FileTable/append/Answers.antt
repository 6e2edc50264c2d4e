use Rattle.std.proofs.Common.{◌∙◌, ap, sym, refl}
use Rattle.std.specs.FinMap as map
use Rattle.std.proofs.lemmas.Result.{err_from_is_err_and}
use Rattle.tdm_desk.proofs.FileLaws.{with_more-none}
use Rattle.tdm_desk.proofs.FileTableLaws.{is_first, is_absent, get-absent, files-append, files-kept}
use Rattle.tdm_desk.proofs.file_table.FileTable.append.Goals as goal

pub returns-in_err-extend_from_slice-clause-err : goal.returns-in_err-extend_from_slice-clause-err
returns-in_err-extend_from_slice-clause-err c =
    let p = err_from_is_err_and c.from_residual.result c.from_residual.ensures.1 in
    rw p.1 (files-kept _ _ _ c.index_mut.result.now _ _
    (is_first _ _ _ _ c.as_slice.ensures.value c.in-Some.ensures.within c.in-Some.ensures.first
    c.in-Some.ensures.there)
    c.index_mut.ensures.value refl c.in_err-extend_from_slice.ensures.items c.self.view_is)

pub returns-in_ok-extend_from_slice-clause-ok : goal.returns-in_ok-extend_from_slice-clause-ok
returns-in_ok-extend_from_slice-clause-ok c =
    files-append _ _ _ _ c.index_mut.result.now _ _
    (is_first _ _ _ _ c.as_slice.ensures.value c.in-Some.ensures.within c.in-Some.ensures.first
    c.in-Some.ensures.there)
    c.index_mut.ensures.value refl c.in_ok-extend_from_slice.ensures.items c.self.view_is

pub returns-in_default-clause-ok : goal.returns-in_default-clause-ok
returns-in_default-clause-ok c =
    sym (with_more-none _ _ _ (ap (λ files. map.get files c.args.name.now) (sym c.self.view_is)
    ∙ get-absent _ _ (is_absent _ _ _ c.as_slice.ensures.value c.in_default.ensures.none)))
