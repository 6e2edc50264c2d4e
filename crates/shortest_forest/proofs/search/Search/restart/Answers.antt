use Rattle.std.proofs.Common.{None, length, ap, sym, ◌∙◌}
use Rattle.std.specs.Prelude.{replicate}
use Rattle.std.proofs.lemmas.List.{length-map}
use Rattle.shortest_forest.specs.Labels.{Labels}
use Rattle.shortest_forest.specs.Stamps.{label_of}
use Rattle.shortest_forest.proofs.search.Search.restart.Goals as goal

pub returns-clause-labels : goal.returns-clause-labels
returns-clause-labels c =
    c.next_stamp-stamp.ensures.none
    ∙ ap (λ n. replicate n None) (sym (length-map c.self.inside.labels.items (label_of c.self.inside.stamp))
    ∙ ap (λ (s : Labels). length s.labels) c.self.view_is)
