use Rattle.std.proofs.Common.{rules, List, ℕ, subst}
use Rattle.std.specs.Prelude.{slice_index}
use Rattle.std.proofs.lemmas.Result.{IfOk-weaker}
use Rattle.cert_checker.specs.NetGrowths.{AreGrowths}
use Rattle.cert_checker.proofs.SpreadLists.{spreads-grown}
use Rattle.cert_checker.proofs.spread.spreads.Goals as goal

pub returns-then-grows : goal.returns-then-grows
returns-then-grows c =
    let board = c.args.problem.now in
    let weights = c.args.weights.now in
    IfOk-weaker c.growths.result _ _
    (λ grown are. spreads-grown board c.args.cert.now weights grown.items
    (search rules) c.lengths.ensures.ranges c.requires.board.wire_limit c.requires.is_for.lengths
    c.requires.weights
    (subst (λ (ls : List ℕ). AreGrowths board (slice_index ls) weights grown.items) c.lengths.ensures.value
    are))
    c.growths.ensures
