use Rattle.std.proofs.Common.{◌∷◌, [], ◌++◌, ◌-◌, ap, sym, ◌∙◌, arith}
use Rattle.tdm_problem.specs.declared.wire.Wire.{Wire}
use Rattle.tdm_lines.specs.Written.{plain_line}
use Rattle.contest_input.specs.declared.roles.Role.{Role}
use Rattle.contest_input.specs.Faults.{wire_of}
use Rattle.contest_input.specs.Roles.{said_in}
use Rattle.contest_input.proofs.RoleLaws.{wires-take, wires-done}
use Rattle.contest_input.proofs.roles.BoardState.take_wire.Goals as goal

pub returns-then-self-gt0-clause-said : goal.returns-then-self-gt0-clause-said
returns-then-self-gt0-clause-said c = λ n end more.
    let now = c.args.self.now in
    let pushed = c.in_ok-push_wire.ensures.ok
    ∙ ap (λ (w : Wire). record now.draft { wires = now.draft.wires ++ w ∷ [] })
    (c.wire_of-wire.ensures.wire ∙ ap wire_of c.deref.ensures.value) in
    wires-take now.sizes now.draft c.push_wire.new.self now.left end (plain_line n now.numbers.items) more
    c.requires.there.some c.requires.clean pushed
    ∙ ap (λ (r : Role). said_in r now.sizes c.push_wire.new.self (now.left - 1) now.listed end more)
    (sym c.requires.role)

pub returns-clause-said : goal.returns-clause-said
returns-clause-said c = λ n end more.
    let now = c.args.self.now in
    let pushed = c.in_ok-push_wire.ensures.ok
    ∙ ap (λ (w : Wire). record now.draft { wires = now.draft.wires ++ w ∷ [] })
    (c.wire_of-wire.ensures.wire ∙ ap wire_of c.deref.ensures.value) in
    wires-take now.sizes now.draft c.push_wire.new.self now.left end (plain_line n now.numbers.items) more
    c.requires.there.some c.requires.clean pushed
    ∙ wires-done now.sizes c.push_wire.new.self (now.left - 1) end more (omega arith)
    ∙ sym (c.begin_nets.ensures.said end more)
