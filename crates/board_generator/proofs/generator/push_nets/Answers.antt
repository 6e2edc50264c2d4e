use Rattle.std.proofs.Common.{ℕ, ◌+◌, ◌*◌, ◌%◌, List, [], ◌∷◌, ◌++◌, length, sym, ap, ◌∙◌, arith, zero-add}
use Rattle.std.specs.Prelude.{sum_by}
use Rattle.std.proofs.lemmas.List.FromFn.{length-map-range_with_len, map-range_with_len_more}
use Rattle.tdm_problem.specs.Board.{Board}
use Rattle.tdm_problem.proofs.Repeats.{length-without_repeats}
use Rattle.board_generator.specs.Generated.{net_of}
use Rattle.board_generator.proofs.Pushed.{few_listed}
use Rattle.board_generator.proofs.generator.push_nets.Goals as goal

pub push_net-requires-clause-room : goal.push_net-requires-clause-room
push_net-requires-clause-room c =
    let count = ap (λ (b : Board). length b.nets) c.loop-i.invariant in
    omega (arith, count, length-map-range_with_len (net_of c.args.fpgas) 0 c.loop-i.i)

pub push_net-requires-clause-room_listed : goal.push_net-requires-clause-room_listed
push_net-requires-clause-room_listed c =
    let total = ap (λ (b : Board). sum_by length b.nets) c.loop-i.invariant in
    omega (
      arith,
      total,
      few_listed (net_of c.args.fpgas)
          (λ i. length-without_repeats (7 * i % c.args.fpgas ∷ (11 * i + 3) % c.args.fpgas
          ∷ (13 * i + 5) % c.args.fpgas ∷ [])) c.loop-i.i,
    )

pub loop-i-preserved : goal.loop-i-preserved
loop-i-preserved c =
    c.in_ok-push_net.ensures.ok
    ∙ ap (λ (b : Board). record b { nets = b.nets ++ net_of c.args.fpgas c.loop-i.i ∷ [] }) c.loop-i.invariant
    ∙ ap (λ (rows : List (List ℕ)). record c.args.draft.now { nets = rows })
    (sym (map-range_with_len_more (net_of c.args.fpgas) 0 c.loop-i.i c.loop-i.i (zero-add c.loop-i.i)))
