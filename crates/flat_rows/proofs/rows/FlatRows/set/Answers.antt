use Rattle.std.proofs.Common.{List, ◌<◌, ◌+◌, ◌∙◌, ap, length, arith}
use Rattle.flat_rows.specs.Rows.{start_of_row}
use Rattle.flat_rows.proofs.CutRows.{row_written, end-there}
use Rattle.flat_rows.proofs.rows.FlatRows.set.Goals as goal

pub start_of-start-requires : goal.start_of-start-requires
start_of-start-requires g c = rw c.deref.ensures.value (end-there _ _ c.self.view_is c.requires.row_there)

pub overflow_add-start : goal.overflow_add-start
overflow_add-start g c =
    let starts = c.start_of-start.ensures
    ∙ ap (λ (ends : List _). start_of_row 0 ends c.args.i) c.deref.ensures.value in
    let written = row_written _ _ c.args.place c.args.item c.self.view_is c.self.invariant
    c.requires.row_there c.requires.place_there starts in
    let within : c.start_of-start.result + c.args.place < length c.self.inside.items.items = written.within in
    omega arith

pub index_mut-requires : goal.index_mut-requires
index_mut-requires g c =
    let starts = c.start_of-start.ensures
    ∙ ap (λ (ends : List _). start_of_row 0 ends c.args.i) c.deref.ensures.value in
    let written = row_written _ _ c.args.place c.args.item c.self.view_is c.self.invariant
    c.requires.row_there c.requires.place_there starts in
    let within : c.start_of-start.result + c.args.place < length c.self.inside.items.items = written.within in
    omega arith

pub invariant_of-self : goal.invariant_of-self
invariant_of-self g c =
    let starts = c.start_of-start.ensures
    ∙ ap (λ (ends : List _). start_of_row 0 ends c.args.i) c.deref.ensures.value in
    (row_written _ _ c.args.place c.args.item c.self.view_is c.self.invariant c.requires.row_there
    c.requires.place_there starts).cut

pub returns : goal.returns
returns g c =
    let starts = c.start_of-start.ensures
    ∙ ap (λ (ends : List _). start_of_row 0 ends c.args.i) c.deref.ensures.value in
    (row_written _ _ c.args.place c.args.item c.self.view_is c.self.invariant c.requires.row_there
    c.requires.place_there starts).view
