use Rattle.std.proofs.Common.{◌≡◌, ◌≢◌, ℕ, ◌≤◌, Bool, true, false, List, [], ◌∷◌, sym, subst, arith, ⊎_elim}
use Rattle.std.specs.Prelude.{Contains, nat_eq, if◌then◌else◌}
use Rattle.std.proofs.lemmas.List.Sums.{sum_by-cons}
use Rattle.tdm_problem.specs.Board.{Board}
use Rattle.tdm_problem.specs.Walk.{IsWalk, AnyWire}
use Rattle.tdm_problem.specs.Distance.{length_of}
use Rattle.board_graph.specs.Graph.{board_of}
use Rattle.shortest_forest.proofs.BaselineLaws.{contains-cons}
use Rattle.shortest_forest.proofs.WayLaws.{arc_walk-to_walk}
use Rattle.steiner_build.proofs.tests.grow_pair.Goals as goal

at_most_one : (b : Bool) → (if b then 0 else 1) ≤ 1
at_most_one true = omega arith
at_most_one false = omega arith

-- a walk to FPGA 2 from elsewhere has a wire
one-from_elsewhere : (board : Board) (f : ℕ) (es : List ℕ) → IsWalk board (AnyWire board) f es 2
    → (if nat_eq f 2 then 0 else 1) ≤ length_of (λ _. 1) es
one-from_elsewhere board f [] walk =
    let here : (if nat_eq 2 2 then 0 else 1) ≤ 0 = omega arith in
    subst (λ (n : ℕ). (if nat_eq n 2 then 0 else 1) ≤ 0) (sym walk) here
one-from_elsewhere board f (e ∷ es) walk = omega (arith, at_most_one (nat_eq f 2), sum_by-cons (λ _. 1) e es)

pub grow-requires-clause-lawful : goal.grow-requires-clause-lawful
grow-requires-clause-lawful c = λ goals others f es t total marked walk.
    let board = board_of c.args.graph.now in
    let among = (others t).0 marked in
    let same : 2 ≡ t = ⊎_elim (λ zero. absurd (among.1 (sym zero)))
    (λ rest. ⊎_elim (λ two. two) (λ none. absurd (omega (arith, none.1))) (contains-cons 2 t [] rest))
    (contains-cons 0 t (2 ∷ []) among.0) in
    let way = arc_walk-to_walk board (λ _. 1) f es t total walk in
    let least = one-from_elsewhere board f es (subst (λ (n : ℕ). IsWalk board (AnyWire board) f es n)
    (sym same) way.0) in
    omega (arith, least, way.1)
