use Rattle.std.proofs.Common.{rules, ap, ◌∙◌, None, refl}
use Rattle.std.specs.Prelude.{map}
use Rattle.shortest_forest.specs.declared.stamped.Stamped.{Stamped}
use Rattle.shortest_forest.specs.Stamps.{label_of}
use Rattle.shortest_forest.proofs.StampLaws.{all_same}
use Rattle.shortest_forest.proofs.stamped.unknown_labels.Goals as goal

pub returns-clause-none : goal.returns-clause-none
returns-clause-none c =
    let l : Stamped = record { distance = 0; wire = None; stamp = 0 } in
    ap (map (label_of 1)) (c.in_ok-labels.ensures.items_if_clones_equal (search rules))
    ∙ all_same (label_of 1) l None refl c.args.fpgas
