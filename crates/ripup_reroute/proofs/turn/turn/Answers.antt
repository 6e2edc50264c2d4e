use Rattle.std.proofs.Common.{◌^◌, ◌≤◌, ◌∙◌, length-set, subst, sym, arith}
use Rattle.std.specs.Prelude.{All}
use Rattle.board_graph.specs.Graph.{board_of}
use Rattle.ripup_reroute.specs.Bounds.{IsTableAt}
use Rattle.ripup_reroute.proofs.Adding.{rising-distinct}
use Rattle.ripup_reroute.proofs.Scaling.{table-moved}
use Rattle.ripup_reroute.proofs.Summing.{loads-small}
use Rattle.ripup_reroute.proofs.TurnLaws.{IsTurn-stay, IsTurn-better, settled-within, settled-idle, cost-falls, minimal-better, loads-own, loads-without, loads-with, wires-own, room-for, has-tree}
use Rattle.ripup_reroute.proofs.turn.turn.Goals as goal

-- ---- a net with the number 0

pub returns-then-own-eq0-clause-settled : goal.returns-then-own-eq0-clause-settled
returns-then-own-eq0-clause-settled c _ =
    (settled-idle c.args.problem.now c.args.trees.now c.args.numbers.now c.args.n
    (has-tree c.args.problem.now c.args.trees.now c.args.n c.requires.minimal c.requires.there)
    (wires-own c.args.problem.now c.args.trees.now c.args.n c.wires_of-tree.result.now c.requires.minimal
    c.requires.there c.wires_of-tree.ensures.value c.wires_of-tree.ensures.rising) c.if-own-eq0.true)

pub returns-then-own-eq0-clause-turn : goal.returns-then-own-eq0-clause-turn
returns-then-own-eq0-clause-turn c =
    IsTurn-stay c.args.problem.now c.args.trees.now c.args.numbers.now c.args.n
    (settled-idle c.args.problem.now c.args.trees.now c.args.numbers.now c.args.n
    (has-tree c.args.problem.now c.args.trees.now c.args.n c.requires.minimal c.requires.there)
    (wires-own c.args.problem.now c.args.trees.now c.args.n c.wires_of-tree.result.now c.requires.minimal
    c.requires.there c.wires_of-tree.ensures.value c.wires_of-tree.ensures.rising)
    c.if-own-eq0.true).short

-- ---- taken off

pub begin_turn-requires-clause-light : goal.begin_turn-requires-clause-light
begin_turn-requires-clause-light c =
    subst (All (λ x. x ≤ 2 ^ 50)) (sym c.deref.ensures.value)
    (loads-small c.args.problem.now c.args.trees.now c.args.numbers.now c.args.loads.now.items
    c.requires.board c.requires.numbers c.requires.minimal.for_board.nets c.requires.loads)

pub take_number-requires-clause-distinct : goal.take_number-requires-clause-distinct
take_number-requires-clause-distinct c =
    rising-distinct c.wires_of-tree.result.now c.wires_of-tree.ensures.rising

pub take_number-requires-clause-loaded : goal.take_number-requires-clause-loaded
take_number-requires-clause-loaded c e =
    rw (← c.wires_of-tree.ensures.value)
    (omega (
      arith,
      loads-own c.args.problem.now c.args.trees.now c.args.numbers.now c.args.n
          (has-tree c.args.problem.now c.args.trees.now c.args.n c.requires.minimal c.requires.there)
          c.args.loads.now.items c.requires.loads e,
    ))

pub find_better-requires-clause-loads : goal.find_better-requires-clause-loads
find_better-requires-clause-loads c =
    rw c.deref-2.ensures.value
    (loads-without c.args.problem.now c.args.trees.now c.args.numbers.now c.args.n
    (has-tree c.args.problem.now c.args.trees.now c.args.n c.requires.minimal c.requires.there)
    c.wires_of-tree.result.now c.wires_of-tree.ensures.value c.args.loads.now.items
    c.take_number.new.loads.items c.requires.loads c.take_number.ensures)

-- ---- a better tree

pub add_number-requires-clause-distinct : goal.add_number-requires-clause-distinct
add_number-requires-clause-distinct c =
    rw c.deref-then-branch.ensures.value
    (rising-distinct _ (c.in_ok-find_better.ensures.better c.if-branch.true).rising)

pub add_number-requires-clause-room : goal.add_number-requires-clause-room
add_number-requires-clause-room c =
    room-for c.args.problem.now c.args.trees.now c.args.numbers.now c.args.n c.take_number.new.loads.items
    c.requires.board c.requires.numbers c.requires.minimal c.requires.there
    (loads-without c.args.problem.now c.args.trees.now c.args.numbers.now c.args.n
    (has-tree c.args.problem.now c.args.trees.now c.args.n c.requires.minimal c.requires.there)
    c.wires_of-tree.result.now c.wires_of-tree.ensures.value c.args.loads.now.items
    c.take_number.new.loads.items c.requires.loads c.take_number.ensures)

pub invariant_of-lower : goal.invariant_of-lower
invariant_of-lower c = record {
  small = λ k d below. (
      let light : All (λ x. x ≤ 2 ^ 50) c.deref-then-branch-2.result.now =
      subst (All (λ x. x ≤ 2 ^ 50)) (sym c.deref-then-branch-2.ensures.value)
      (loads-small c.args.problem.now _ c.args.numbers.now c.add_number.new.loads.items c.requires.board
      c.requires.numbers (length-set c.args.trees.now c.args.n c.find_better.new.tools.found.items
      ∙ c.requires.minimal.for_board.nets)
      (loads-with c.args.problem.now c.args.trees.now c.args.numbers.now c.args.n
      (has-tree c.args.problem.now c.args.trees.now c.args.n c.requires.minimal c.requires.there)
      c.find_better.new.tools.found.items c.add_number.new.loads.items c.take_number.new.loads.items
      (loads-without c.args.problem.now c.args.trees.now c.args.numbers.now c.args.n
      (has-tree c.args.problem.now c.args.trees.now c.args.n c.requires.minimal c.requires.there)
      c.wires_of-tree.result.now c.wires_of-tree.ensures.value c.args.loads.now.items
      c.take_number.new.loads.items c.requires.loads c.take_number.ensures)
      (rw c.deref-then-branch.ensures.value at c.add_number.ensures))) in
      omega (arith, light k d below));
}

pub returns-then-branch-clause-table : goal.returns-then-branch-clause-table
returns-then-branch-clause-table c =
    let at = subst (IsTableAt (board_of c.args.graph.now) c.args.loads.now.items)
    (sym c.in_ok-find_better.ensures.table) (rw c.deref.ensures.value at c.in_ok-begin_turn.ensures) in
    let own = rw c.deref-then-branch-2.ensures.value at c.lower.ensures.scaled in
    table-moved (board_of c.args.graph.now) c.find_better.new.tools.table c.lower.new.self
    _ c.wires_of-tree.result.now c.deref-then-branch.result.now c.args.loads.now.items
    c.take_number.new.loads.items c.add_number.new.loads.items
    at (c.lower.ensures.table (board_of c.args.graph.now) at.table_is) c.lower.ensures.loads
    c.lower.ensures.least c.take_number.ensures c.add_number.ensures own

pub returns-then-branch-clause-minimal : goal.returns-then-branch-clause-minimal
returns-then-branch-clause-minimal c =
    rw (c.in_ok-replace.ensures.ok, c.deref-then-branch-3.ensures.value)
    (minimal-better c.args.problem.now c.args.trees.now c.args.numbers.now c.args.n
    (has-tree c.args.problem.now c.args.trees.now c.args.n c.requires.minimal c.requires.there)
    (wires-own c.args.problem.now c.args.trees.now c.args.n c.wires_of-tree.result.now c.requires.minimal
    c.requires.there c.wires_of-tree.ensures.value c.wires_of-tree.ensures.rising)
    c.find_better.new.tools.found.items (c.in_ok-find_better.ensures.better c.if-branch.true)
    c.requires.minimal)

pub returns-then-branch-clause-loads : goal.returns-then-branch-clause-loads
returns-then-branch-clause-loads c =
    rw (c.in_ok-replace.ensures.ok, c.deref-then-branch-3.ensures.value)
    (loads-with c.args.problem.now c.args.trees.now c.args.numbers.now c.args.n
    (has-tree c.args.problem.now c.args.trees.now c.args.n c.requires.minimal c.requires.there)
    c.find_better.new.tools.found.items c.add_number.new.loads.items c.take_number.new.loads.items
    (loads-without c.args.problem.now c.args.trees.now c.args.numbers.now c.args.n
    (has-tree c.args.problem.now c.args.trees.now c.args.n c.requires.minimal c.requires.there)
    c.wires_of-tree.result.now c.wires_of-tree.ensures.value c.args.loads.now.items
    c.take_number.new.loads.items c.requires.loads c.take_number.ensures)
    (rw c.deref-then-branch.ensures.value at c.add_number.ensures))

pub returns-then-branch-clause-turn : goal.returns-then-branch-clause-turn
returns-then-branch-clause-turn c =
    rw (c.in_ok-replace.ensures.ok, c.deref-then-branch-3.ensures.value)
    (IsTurn-better c.args.problem.now c.args.trees.now c.args.numbers.now c.args.n
    (has-tree c.args.problem.now c.args.trees.now c.args.n c.requires.minimal c.requires.there)
    (wires-own c.args.problem.now c.args.trees.now c.args.n c.wires_of-tree.result.now c.requires.minimal
    c.requires.there c.wires_of-tree.ensures.value c.wires_of-tree.ensures.rising)
    c.find_better.new.tools.found.items (c.in_ok-find_better.ensures.better c.if-branch.true)
    (omega (arith, c.if-own-eq0.false)))

pub returns-then-branch-clause-moved : goal.returns-then-branch-clause-moved
returns-then-branch-clause-moved c _ =
    rw (c.in_ok-replace.ensures.ok, c.deref-then-branch-3.ensures.value)
    (cost-falls c.args.problem.now c.args.trees.now c.args.numbers.now c.args.n
    (has-tree c.args.problem.now c.args.trees.now c.args.n c.requires.minimal c.requires.there)
    (wires-own c.args.problem.now c.args.trees.now c.args.n c.wires_of-tree.result.now c.requires.minimal
    c.requires.there c.wires_of-tree.ensures.value c.wires_of-tree.ensures.rising)
    c.find_better.new.tools.found.items (c.in_ok-find_better.ensures.better c.if-branch.true)
    (omega (arith, c.if-own-eq0.false)))

-- ---- put back

pub add_number-requires-2-clause-distinct : goal.add_number-requires-2-clause-distinct
add_number-requires-2-clause-distinct c = rising-distinct c.wires_of.result.now c.wires_of.ensures.rising

pub add_number-requires-2-clause-room : goal.add_number-requires-2-clause-room
add_number-requires-2-clause-room c =
    room-for c.args.problem.now c.args.trees.now c.args.numbers.now c.args.n c.take_number.new.loads.items
    c.requires.board c.requires.numbers c.requires.minimal c.requires.there
    (loads-without c.args.problem.now c.args.trees.now c.args.numbers.now c.args.n
    (has-tree c.args.problem.now c.args.trees.now c.args.n c.requires.minimal c.requires.there)
    c.wires_of-tree.result.now c.wires_of-tree.ensures.value c.args.loads.now.items
    c.take_number.new.loads.items c.requires.loads c.take_number.ensures)

pub returns-clause-turn : goal.returns-clause-turn
returns-clause-turn c =
    IsTurn-stay c.args.problem.now c.args.trees.now c.args.numbers.now c.args.n
    (settled-within c.args.problem.now c.args.trees.now c.args.numbers.now c.args.n
    (has-tree c.args.problem.now c.args.trees.now c.args.n c.requires.minimal c.requires.there)
    (wires-own c.args.problem.now c.args.trees.now c.args.n c.wires_of-tree.result.now c.requires.minimal
    c.requires.there c.wires_of-tree.ensures.value c.wires_of-tree.ensures.rising)
    (c.in_ok-find_better.ensures.best c.if-branch.false)).short

pub returns-clause-settled : goal.returns-clause-settled
returns-clause-settled c _ =
    (settled-within c.args.problem.now c.args.trees.now c.args.numbers.now c.args.n
    (has-tree c.args.problem.now c.args.trees.now c.args.n c.requires.minimal c.requires.there)
    (wires-own c.args.problem.now c.args.trees.now c.args.n c.wires_of-tree.result.now c.requires.minimal
    c.requires.there c.wires_of-tree.ensures.value c.wires_of-tree.ensures.rising)
    (c.in_ok-find_better.ensures.best c.if-branch.false))
