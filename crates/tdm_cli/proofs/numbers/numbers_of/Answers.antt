use Rattle.std.proofs.Common.{◌≡◌, ℕ, ◌^◌, ◌≤◌, List, length, map, sym, ap, ◌∙◌, subst, arith}
use Rattle.std.specs.Prelude.{All}
use Rattle.std.specs.Vec.{with_items}
use Rattle.std.proofs.lemmas.List.{length-map, with_items_is}
use Rattle.tdm_problem.specs.Roots.{root_of}
use Rattle.tdm_cli.proofs.NumberLaws.{roots-small}
use Rattle.tdm_cli.proofs.numbers.numbers_of.Goals as goal

pub returns-clause-small : goal.returns-clause-small
returns-clause-small c =
    let sums = c.in_ok-numbers.numbers in
    let roots : c.take_roots.new.numbers ≡ map root_of sums.items = c.take_roots.ensures
    ∙ ap (map root_of) c.deref_mut.ensures.value in
    let items : (with_items sums c.take_roots.new.numbers).items ≡ c.take_roots.new.numbers =
    with_items_is sums c.take_roots.new.numbers (omega (
      arith,
      ap length c.take_roots.ensures,
      length-map c.deref_mut.result.now root_of,
      c.deref_mut.ensures.len,
    )) in
    subst (λ (ns : List ℕ). All (λ s. s ≤ 2 ^ 30) ns) (sym (items ∙ roots))
    (roots-small sums.items c.in_ok-numbers.ensures.small)
