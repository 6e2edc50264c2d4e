use Rattle.std.proofs.Common.{List, ◌∙◌, ap, length, arith}
use Rattle.flat_rows.specs.Rows.{start_of_row}
use Rattle.flat_rows.proofs.CutRows.{stands_at, end-there}
use Rattle.flat_rows.proofs.rows.FlatRows.row.Goals as goal

pub start_of-start-requires : goal.start_of-start-requires
start_of-start-requires g c = rw c.deref.ensures.value (end-there _ _ c.self.view_is c.requires)

pub index-requires : goal.index-requires
index-requires g c =
    omega (
      arith,
      c.deref.ensures.len,
      ap length c.deref.ensures.value,
      end-there c.self.inside.ends.items c.self.inside.items.items c.self.view_is c.requires,
    )

pub between-requires : goal.between-requires
between-requires g c =
    let starts = c.start_of-start.ensures
    ∙ ap (λ (ends : List _). start_of_row 0 ends c.args.i) c.deref.ensures.value in
    let row = stands_at _ _ c.self.view_is c.self.invariant c.requires starts c.index.ensures in
    record { rises = row.rises; within = omega (arith, row.within, ap length c.deref-2.ensures.value) }

pub returns : goal.returns
returns g c =
    let starts = c.start_of-start.ensures
    ∙ ap (λ (ends : List _). start_of_row 0 ends c.args.i) c.deref.ensures.value in
    let row = stands_at _ _ c.self.view_is c.self.invariant c.requires starts c.index.ensures in
    rw (c.between.ensures, c.deref-2.ensures.value) (record { there = row.there; value = row.value })
