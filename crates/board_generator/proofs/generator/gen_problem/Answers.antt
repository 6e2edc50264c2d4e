use Rattle.std.proofs.Common.{◌≡◌, ℕ, ◌/◌, List, ◌++◌, length, map, sym, ap, subst, ◌∙◌, arith}
use Rattle.std.specs.List.{range_with_len}
use Rattle.std.proofs.lemmas.List.FromFn.{length-map-range_with_len}
use Rattle.tdm_problem.specs.declared.wire.Wire.{Wire}
use Rattle.tdm_problem.specs.Board.{Board, IsBoard}
use Rattle.tdm_problem.specs.Legal.{AllConnectable}
use Rattle.board_generator.specs.Generated.{wire_over, net_of, group_of, generated}
use Rattle.board_generator.proofs.Connected.{all_joined}
use Rattle.board_generator.proofs.generator.gen_problem.Goals as goal

pub push_wires-requires-2-clause-room : goal.push_wires-requires-2-clause-room
push_wires-requires-2-clause-room c =
    let pushed : List Wire = map (wire_over c.args.f 1) (range_with_len 0 c.args.f) in
    let count = ap (λ (b : Board). length b.wires) (c.in_ok-push_wires.ensures
    ∙ ap (λ (b : Board). record b { wires = b.wires ++ pushed }) c.new-draft.ensures.empty) in
    omega (arith, count, length-map-range_with_len (wire_over c.args.f 1) 0 c.args.f, c.requires.few_fpgas)

pub push_groups-requires-clause-nets : goal.push_groups-requires-clause-nets
push_groups-requires-clause-nets c =
    ap (λ (b : Board). length b.nets) c.in_ok-push_nets.ensures
    ∙ length-map-range_with_len (net_of c.args.f) 0 c.args.n

pub returns-clause-joined : goal.returns-clause-joined
returns-clause-joined c =
    let wired : (step : ℕ) → Board
    → Board = λ step b. record b {
      wires =
          b.wires ++ map (wire_over c.args.f step) (range_with_len 0 c.args.f);
    } in
    let netted : Board → Board = λ b. record b { nets = map (net_of c.args.f) (range_with_len 0 c.args.n) } in
    let grouped : Board → Board =
    λ b. record b { groups = map (group_of c.args.n) (range_with_len 0 c.args.g) } in
    let is : c.into_problem.result ≡ generated c.args.f c.args.n c.args.g =
    c.into_problem.ensures.same ∙ c.in_ok-push_groups.ensures
    ∙ ap grouped (c.in_ok-push_nets.ensures ∙ ap netted (c.in_ok-push_wires-2.ensures
    ∙ ap (wired (c.args.f / 2)) (c.in_ok-push_wires.ensures
    ∙ ap (wired 1) c.new-draft.ensures.empty))) in
    subst AllConnectable (sym is)
    (all_joined c.args.f c.args.n c.args.g (subst IsBoard is c.into_problem.ensures.board))
