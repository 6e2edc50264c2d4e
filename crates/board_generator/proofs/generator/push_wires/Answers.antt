use Rattle.std.proofs.Common.{List, [], ◌∷◌, ◌++◌, length, map, sym, ap, ◌∙◌, arith, zero-add, length-append, append_assoc}
use Rattle.std.specs.List.{range_with_len}
use Rattle.std.proofs.lemmas.List.FromFn.{length-map-range_with_len, map-range_with_len_more}
use Rattle.tdm_problem.specs.declared.wire.Wire.{Wire}
use Rattle.tdm_problem.specs.Board.{Board}
use Rattle.board_generator.specs.Generated.{wire_over}
use Rattle.board_generator.proofs.generator.push_wires.Goals as goal

pub push_wire-requires-clause-room : goal.push_wire-requires-clause-room
push_wire-requires-clause-room c =
    let pushed : List Wire = map (wire_over c.args.fpgas c.args.step) (range_with_len 0 c.loop-i.i) in
    let count = ap (λ (b : Board). length b.wires) c.loop-i.invariant
    ∙ length-append c.args.draft.now.wires pushed in
    omega (arith, count, length-map-range_with_len (wire_over c.args.fpgas c.args.step) 0 c.loop-i.i)

pub loop-i-preserved : goal.loop-i-preserved
loop-i-preserved c =
    let wire : Wire = wire_over c.args.fpgas c.args.step c.loop-i.i in
    let pushed : List Wire = map (wire_over c.args.fpgas c.args.step) (range_with_len 0 c.loop-i.i) in
    c.in_ok-push_wire.ensures.ok
    ∙ ap (λ (b : Board). record b { wires = b.wires ++ wire ∷ [] }) c.loop-i.invariant
    ∙ ap (λ (wires : List Wire). record c.args.draft.now { wires = wires })
    (append_assoc c.args.draft.now.wires pushed (wire ∷ [])
    ∙ ap (λ (wires : List Wire). c.args.draft.now.wires ++ wires)
    (sym (map-range_with_len_more (wire_over c.args.fpgas c.args.step) 0 c.loop-i.i c.loop-i.i
    (zero-add c.loop-i.i))))
