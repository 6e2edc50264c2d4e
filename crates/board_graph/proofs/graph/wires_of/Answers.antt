use Rattle.std.proofs.Common.{take, sym, ap, ◌∙◌, ◌++◌, [], ◌∷◌}
use Rattle.std.proofs.lemmas.List.{take_more}
use Rattle.std.proofs.lemmas.Option.{get_or_from_slice_get, slice_get_within}
use Rattle.board_graph.proofs.graph.wires_of.Goals as goal

pub loop-e-preserved : goal.loop-e-preserved
loop-e-preserved c =
    let wires = c.args.problem.now.wires in
    let here = get_or_from_slice_get wires c.loop-e.e c.wire.result c.wire.result c.wire.ensures.there in
    c.in_ok-push.ensures.items
    ∙ ap (λ xs. xs ++ c.wire.result ∷ []) c.loop-e.invariant
    ∙ ap (λ x. take c.loop-e.e wires ++ x ∷ []) (sym here)
    ∙ sym (take_more wires c.loop-e.e c.wire.result
    (slice_get_within wires c.loop-e.e c.wire.result c.wire.ensures.there))
