use Rattle.std.proofs.Common.{◌∷◌, List, Option, Some, ℕ, ap, set, subst, ◌∙◌}
use Rattle.std.specs.Prelude.{IsPermutation}
use Rattle.std.specs.BinaryHeap.{heap_items}
use Rattle.std.specs.declared.cmp.Reverse.{Reverse}
use Rattle.shortest_forest.specs.declared.label.Label.{Label}
use Rattle.shortest_forest.specs.Labels.{Labels}
use Rattle.shortest_forest.proofs.StampLaws.{labels_set}
use Rattle.shortest_forest.proofs.search.Search.lower.Goals as goal

pub returns-clause-lowered : goal.returns-clause-lowered
returns-clause-lowered c =
    let l : Option Label = Some (record { distance = c.args.distance; wire = c.args.wire }) in
    let entry : Reverse (ℕ × ℕ) = record { 0 = (c.args.key, c.args.f) } in
    let P : List (Reverse (ℕ × ℕ)) → Type 0 = λ q. IsPermutation (entry ∷ q) (heap_items c.push.new.self) in
    record {
      labels = labels_set c.self.inside.stamp c.self.inside.labels.items c.args.f c.args.distance c.args.wire
          ∙ ap (λ (s : Labels). set s.labels c.args.f l) c.self.view_is;
      goals = ap (λ (s : Labels). s.goals) c.self.view_is;
      queue = subst P (ap (λ (s : Labels). s.queue) c.self.view_is) c.in_ok-push.ensures.permutation;
    }
