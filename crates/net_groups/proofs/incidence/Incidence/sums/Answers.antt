use Rattle.std.proofs.Common.{◌≡◌, ℕ, ◌+◌, ◌^◌, ◌<◌, List, length, sym, subst, arith}
use Rattle.std.specs.Prelude.{slice_index, slice_index_or}
use Rattle.std.proofs.lemmas.List.{get_or_default}
use Rattle.std.proofs.lemmas.List.Kept.{AllPairs-from_increasing}
use Rattle.net_groups.specs.Incidence.{sum_before}
use Rattle.net_groups.proofs.Holders.{sums-board}
use Rattle.net_groups.proofs.incidence.Incidence.sums.Goals as goal

pub add_to-requires-clause-distinct : goal.add_to-requires-clause-distinct
add_to-requires-clause-distinct c i j d before there same =
    omega (
      arith,
      same,
      AllPairs-from_increasing c.groups_of.result.now c.groups_of.ensures.row.rising i j d
          before there,
    )

pub add_to-requires-clause-room : goal.add_to-requires-clause-room
add_to-requires-clause-room c =
    subst (λ (sums : List ℕ). (k d : ℕ) → k < length sums → slice_index_or sums k d + c.sum_of_uses.result
    < 2 ^ 128) (sym c.deref_mut.ensures.value)
    (λ k d there.
    omega (
      arith,
      get_or_default c.loop-n.sums.items k d 0 there,
      c.loop-n.invariant.small k (omega (arith, there, c.loop-n.invariant.count)),
      c.sum_of_uses.ensures.small,
      c.groups.ensures.limits.net_limit,
      c.nets-n-end.ensures.value,
    ))

pub returns-clause-board : goal.returns-clause-board
returns-clause-board c board ok is =
    let all : c.loop-n.n ≡ length c.args.self.now.of_nets = omega (arith, c.nets-n-end.ensures.value) in
    sums-board board c.args.self.now c.args.solution.now c.loop-n.sums.items ok is c.loop-n.invariant.count
    (λ g there.
    subst (λ (n : ℕ). slice_index c.loop-n.sums.items g ≡ sum_before c.args.self.now c.args.solution.now n g)
    all (c.loop-n.invariant.each g there))
