use Rattle.std.proofs.Common.{◌∙◌, ap, sym}
use Rattle.std.specs.Prelude.{Some}
use Rattle.std.specs.FinMap as map
use Rattle.tdm_desk.proofs.FileTableLaws.{is_first, is_absent, get-first, get-absent}
use Rattle.tdm_desk.proofs.file_table.FileTable.get.Goals as goal

pub returns-in-Some : goal.returns-in-Some
returns-in-Some c =
    ap Some (c.as_slice-in-Some.ensures.value ∙ ap (λ file. file.bytes.items) c.index.ensures)
    ∙ sym (get-first _ _ _ _ (is_first _ _ _ _ c.as_slice.ensures.value c.in-Some.ensures.within
    c.in-Some.ensures.first c.in-Some.ensures.there))
    ∙ ap (λ files. map.get files c.args.name.now) c.self.view_is

pub returns-in-None : goal.returns-in-None
returns-in-None c =
    sym (ap (λ files. map.get files c.args.name.now) (sym c.self.view_is)
    ∙ get-absent _ _ (is_absent _ _ _ c.as_slice.ensures.value c.in-None.ensures.none))
