use Rattle.std.proofs.Common.{rules, ap, ◌∙◌, ◌+◌, length, None, arith, refl}
use Rattle.std.specs.Prelude.{map, replicate, ℕ}
use Rattle.shortest_forest.specs.declared.stamped.Stamped.{Stamped}
use Rattle.shortest_forest.specs.Stamps.{label_of}
use Rattle.shortest_forest.proofs.StampLaws.{labels_gone, all_same}
use Rattle.shortest_forest.proofs.stamped.next_stamp.Goals as goal

pub returns-then-stamp-lt4294967295-clause-none : goal.returns-then-stamp-lt4294967295-clause-none
returns-then-stamp-lt4294967295-clause-none c =
    labels_gone c.args.stamp (c.args.stamp + 1) c.args.labels.now.items (omega arith) c.requires

pub returns-clause-none : goal.returns-clause-none
returns-clause-none c =
    let l : Stamped = record { distance = 0; wire = None; stamp = 0 } in
    ap (map (label_of 1)) (c.fill.ensures.items (search rules)
    ∙ ap (λ (n : ℕ). replicate n l) c.args.labels.now.ok.0)
    ∙ all_same (label_of 1) l None refl (length c.args.labels.now.items)
