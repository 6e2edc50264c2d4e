use Rattle.std.proofs.Common.{arith}
use Rattle.flat_rows.proofs.CutRows.{row_pushed}
use Rattle.flat_rows.proofs.rows.FlatRows.push_row.Goals as goal

pub invariant_of-self-else-is_err : goal.invariant_of-self-else-is_err
invariant_of-self-else-is_err g c =
    let pushed = rw c.if-is_err.ensures.negation at c.push.ensures.items in
    (row_pushed _ _ _ _ c.self.view_is c.self.invariant c.in_ok-extend_from_slice.ensures.items
    (omega (arith, c.len.ensures)) pushed).cut

pub returns-clause-ok : goal.returns-clause-ok
returns-clause-ok g c =
    let pushed = rw c.if-is_err.ensures.negation at c.push.ensures.items in
    (row_pushed _ _ _ _ c.self.view_is c.self.invariant c.in_ok-extend_from_slice.ensures.items
    (omega (arith, c.len.ensures)) pushed).view
