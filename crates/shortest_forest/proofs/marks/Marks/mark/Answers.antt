use Rattle.std.proofs.Common.{◌==◌, true, set, ap, ◌∙◌, refl}
use Rattle.std.specs.Prelude.{map}
use Rattle.std.proofs.lemmas.Bool.{eq-eqb}
use Rattle.std.proofs.lemmas.List.{map-set}
use Rattle.shortest_forest.proofs.marks.Marks.mark.Goals as goal

pub returns : goal.returns
returns c =
    let present = c.self.inside.present in
    map-set (λ k. k == present) c.self.inside.numbers.items c.args.f present
    ∙ ap (λ m. set (map (λ k. k == present) c.self.inside.numbers.items) c.args.f m)
    (eq-eqb present present refl)
    ∙ ap (λ marks. set marks c.args.f true) c.self.view_is
