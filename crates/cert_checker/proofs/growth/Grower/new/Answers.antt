use Rattle.std.proofs.Common.{rules, ◌≡◌, ◌≤◌, List, Bool, ℕ, Option, None, false, length, sym, ap, ◌∙◌, subst}
use Rattle.std.specs.Prelude.{slice_index}
use Rattle.std.proofs.lemmas.List.{length-replicate}
use Rattle.shortest_forest.specs.declared.label.Label.{Label}
use Rattle.steiner_build.specs.Joining.{HasNoGoals}
use Rattle.bound_cert.specs.Limits.{most_length}
use Rattle.cert_checker.proofs.MarkedListLaws.{none-replicate}
use Rattle.cert_checker.proofs.Rests.{all-small}
use Rattle.cert_checker.proofs.growth.Grower.new.Goals as goal

pub invariant_of-result : goal.invariant_of-result
invariant_of-result c =
    let fpgas = c.args.graph.now.fpgas in
    let none : Option Label = None in
    let whole : c.in_ok-lengths.lengths.items ≡ c.args.lengths.now =
    c.in_ok-lengths.ensures.items_if_clones_equal (search rules) in (
      c.wires-wires.ensures.graph,
      ap length whole ∙ c.requires.count,
      λ e. subst (λ (xs : List ℕ). slice_index xs e ≤ most_length) (sym whole)
          (all-small c.args.lengths.now most_length c.requires.small e),
      subst (λ (gs : List Bool). HasNoGoals gs) (sym c.in_ok-start.ensures.goals) (none-replicate fpgas),
      ap length c.in_ok-start.ensures.goals ∙ length-replicate fpgas false,
      ap length c.in_ok-start.ensures.labels ∙ length-replicate fpgas none,
      search rules,
      subst (λ (gs : List Bool). HasNoGoals gs) (sym c.in_ok-search.ensures.goals) (none-replicate fpgas),
      ap length c.in_ok-search.ensures.goals ∙ length-replicate fpgas false,
      ap length c.in_ok-search.ensures.labels ∙ length-replicate fpgas none,
      search rules,
      search rules,
      c.in_ok-worn.ensures.listed,
      c.in_ok-worn.ensures.limit ∙ c.wires-wires.ensures.value,
      c.in_ok-near.ensures.limit ∙ c.fpgas-fpgas.ensures.value,
    )
