use Rattle.std.proofs.Common.{◌∙◌, ap, refl}
use Rattle.tdm_desk.specs.FileTable.{files_in}
use Rattle.tdm_desk.proofs.FileTableLaws.{is_first, is_absent, files-replaced, files-added}
use Rattle.tdm_desk.proofs.file_table.FileTable.put.Goals as goal

pub returns-in-Some-clause-ok : goal.returns-in-Some-clause-ok
returns-in-Some-clause-ok c =
    files-replaced _ _ _ _ c.index_mut.result.now _ _
    (is_first _ _ _ _ c.as_slice.ensures.value c.in-Some.ensures.within c.in-Some.ensures.first
    c.in-Some.ensures.there)
    c.index_mut.ensures.value refl c.in_ok-bytes.ensures.items c.self.view_is

pub returns-in_ok-push-in-None-clause-ok : goal.returns-in_ok-push-in-None-clause-ok
returns-in_ok-push-in-None-clause-ok c =
    ap files_in c.in_ok-push-in-None.ensures.items
    ∙ files-added _ _ _ _ _ (is_absent _ _ _ c.as_slice.ensures.value c.in-None.ensures.none)
    c.in_ok-name-in-None.ensures.ok c.in_ok-bytes.ensures.items c.self.view_is
