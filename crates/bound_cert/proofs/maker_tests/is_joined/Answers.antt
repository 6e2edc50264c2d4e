use Rattle.std.proofs.Common.{◌≡◌, List, ℕ, Option, Some, None, true, sym, ◌∙◌, subst}
use Rattle.std.specs.Prelude.{OnSome, is_some}
use Rattle.std.proofs.lemmas.Bool.{false≢true}
use Rattle.tdm_problem.specs.Board.{Board}
use Rattle.tdm_problem.specs.Walk.{IsConnectable}
use Rattle.board_graph.specs.Graph.{graph_of}
use Rattle.bound_cert.proofs.maker_tests.is_joined.Goals as goal

on_some : {A : Type 0} (x : Option A) (P : Type 0) → is_some x ≡ true → OnSome x P → P
on_some None P some holds = absurd (false≢true some)
on_some (Some a) P some holds = holds

pub returns : goal.returns
returns c joined =
    let P : Type 0 = (board : Board) → c.args.graph.now ≡ graph_of board
    → IsConnectable board c.net-net.result.now in
    let connectable : P = on_some c.in_ok-tree.tree P (sym c.is_some.ensures
    ∙ joined) c.in_ok-tree.ensures.some in
    subst (λ (net : List ℕ). IsConnectable c.args.problem.now net) (sym c.net-net.ensures.value)
    (connectable c.args.problem.now c.requires.graph)
