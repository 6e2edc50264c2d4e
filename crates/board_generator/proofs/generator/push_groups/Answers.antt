use Rattle.std.proofs.Common.{ℕ, ◌+◌, ◌*◌, ◌%◌, List, [], ◌∷◌, ◌++◌, length, sym, ap, ◌∙◌, arith, zero-add}
use Rattle.std.specs.Prelude.{sum_by}
use Rattle.std.proofs.lemmas.List.FromFn.{length-map-range_with_len, map-range_with_len_more}
use Rattle.tdm_problem.specs.Board.{Board}
use Rattle.tdm_problem.proofs.Repeats.{length-without_repeats}
use Rattle.board_generator.specs.Generated.{group_of}
use Rattle.board_generator.proofs.Pushed.{few_listed}
use Rattle.board_generator.proofs.generator.push_groups.Goals as goal

pub push_group-requires-clause-room : goal.push_group-requires-clause-room
push_group-requires-clause-room c =
    let count = ap (λ (b : Board). length b.groups) c.loop-j.invariant in
    omega (arith, count, length-map-range_with_len (group_of c.args.nets) 0 c.loop-j.j)

pub push_group-requires-clause-room_listed : goal.push_group-requires-clause-room_listed
push_group-requires-clause-room_listed c =
    let total = ap (λ (b : Board). sum_by length b.groups) c.loop-j.invariant in
    omega (
      arith,
      total,
      few_listed (group_of c.args.nets)
          (λ i. length-without_repeats
          (i % c.args.nets ∷ (3 * i + 1) % c.args.nets ∷ (5 * i + 2) % c.args.nets ∷ [])) c.loop-j.j,
    )

pub loop-j-preserved : goal.loop-j-preserved
loop-j-preserved c =
    c.in_ok-push_group.ensures.ok
    ∙ ap (λ (b : Board). record b { groups = b.groups ++ group_of c.args.nets c.loop-j.j ∷ [] })
    c.loop-j.invariant
    ∙ ap (λ (rows : List (List ℕ)). record c.args.draft.now { groups = rows })
    (sym (map-range_with_len_more (group_of c.args.nets) 0 c.loop-j.j c.loop-j.j (zero-add c.loop-j.j)))
