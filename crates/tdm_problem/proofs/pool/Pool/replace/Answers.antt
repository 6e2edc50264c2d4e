use Rattle.std.proofs.Common.{List, ℕ, ◌≡◌, length, sym, subst, arith}
use Rattle.std.specs.Prelude.{slice_set}
use Rattle.std.specs.Vec.{with_items}
use Rattle.std.proofs.lemmas.List.{with_items_is}
use Rattle.tdm_problem.proofs.Pools.{HasRows, HasRows-placed, HasRows-written, IsPlaced-append}
use Rattle.tdm_problem.proofs.pool.Pool.replace.Goals as goal

written : (c : goal.After-self-then-row-room-1)
    → HasRows (with_items c.self.inside.items c.write_row.new.items).items
    (slice_set c.self.inside.spots.items c.args.i (record {
      place = c.index.result.now.place;
      length = length c.args.row.now;
      room = c.index.result.now.room;
    }))
    (slice_set c.args.self.now c.args.i c.args.row.now)
written c =
    let old : c.deref_mut.result.now ≡ c.self.inside.items.items = c.deref_mut.ensures.value in
    let are = rw old at c.write_row.ensures.written in
    subst (λ (items : List ℕ). HasRows items (slice_set c.self.inside.spots.items c.args.i
    (record {
      place = c.index.result.now.place;
      length = length c.args.row.now;
      room = c.index.result.now.room;
    })) (slice_set c.args.self.now c.args.i c.args.row.now))
    (sym (with_items_is c.self.inside.items c.write_row.new.items (omega (
      arith,
      c.write_row.ensures.size,
      c.deref_mut.ensures.len,
    ))))
    (HasRows-written _ _ _ c.index.result.now c.args.row.now c.self.invariant c.self.view_is c.requires
    c.index.ensures c.if-row-room.true are)

pub invariant_of-self : goal.invariant_of-self
invariant_of-self c = (written c).pool

pub returns-then-row-room-clause-ok : goal.returns-then-row-room-clause-ok
returns-then-row-room-clause-ok c = (written c).view

pub invariant_of-self-2 : goal.invariant_of-self-2
invariant_of-self-2 c =
    (HasRows-placed _ _ _ c.index.result.now _ c.args.row.now c.self.invariant c.self.view_is c.requires
    c.index.ensures
    (IsPlaced-append _ _ _ c.index.result.now _ c.in_ok-self-inside.ensures.spot)).pool

pub returns-clause-ok : goal.returns-clause-ok
returns-clause-ok c =
    (HasRows-placed _ _ _ c.index.result.now _ c.args.row.now c.self.invariant c.self.view_is c.requires
    c.index.ensures
    (IsPlaced-append _ _ _ c.index.result.now _ c.in_ok-self-inside.ensures.spot)).view
