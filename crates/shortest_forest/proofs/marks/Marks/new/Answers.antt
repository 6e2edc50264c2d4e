use Rattle.std.proofs.Common.{rules, ◌==◌, false, ap, ◌∙◌, refl}
use Rattle.std.specs.Prelude.{map, replicate}
use Rattle.shortest_forest.proofs.StampLaws.{all_same}
use Rattle.shortest_forest.proofs.marks.Marks.new.Goals as goal

pub returns : goal.returns
returns c =
    ap (map (λ k. k == 1)) (c.in_ok-numbers.ensures.items_if_clones_equal (search rules))
    ∙ all_same (λ k. k == 1) 0 false refl c.fpgas.result
    ∙ ap (λ n. replicate n false) c.fpgas.ensures.value
