use Rattle.std.proofs.Common.{ℕ, ◌<◌, List, length, subst, sym, arith}
use Rattle.std.specs.Prelude.{All}
use Rattle.tdm_problem.specs.Limits.{most_groups}
use Rattle.bound_cert.proofs.HolderLaws.{held_few}
use Rattle.bound_cert.proofs.holders.holders.Goals as goal

pub count_members-requires-clause-few : goal.count_members-requires-clause-few
count_members-requires-clause-few c =
    subst (λ (counts : List ℕ). All (λ count. count < most_groups) counts) (sym c.deref_mut.ensures.value)
    (λ n d there.
    omega (
      arith,
      held_few c.args.problem.now.groups (length c.args.problem.now.nets) c.loop-g.g c.loop-g.counts.items
          c.loop-g.invariant (omega arith) n d there,
      c.groups-g-end.ensures.board.group_limit,
    ))

pub returns-clause-few : goal.returns-clause-few
returns-clause-few c n d there =
    omega (
      arith,
      held_few c.args.problem.now.groups (length c.args.problem.now.nets) c.loop-g.g c.loop-g.counts.items
          c.loop-g.invariant (omega arith) n d there,
      c.groups-g-end.ensures.board.group_limit,
    )
