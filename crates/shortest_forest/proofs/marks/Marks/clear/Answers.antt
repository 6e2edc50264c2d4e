use Rattle.std.proofs.Common.{rules, ℕ, ◌==◌, ◌+◌, false, length, ap, sym, ◌∙◌, refl, arith}
use Rattle.std.specs.Prelude.{map, replicate}
use Rattle.std.proofs.lemmas.List.{length-map}
use Rattle.shortest_forest.proofs.StampLaws.{all_same, marks_gone}
use Rattle.shortest_forest.proofs.marks.Marks.clear.Goals as goal

pub returns-then-self-lt4294967295 : goal.returns-then-self-lt4294967295
returns-then-self-lt4294967295 c =
    let before = c.self.inside.present in
    marks_gone before (before + 1) c.self.inside.numbers.items (omega arith) c.self.invariant
    ∙ ap (λ n. replicate n false)
    (sym (length-map c.self.inside.numbers.items (λ k. k == before)) ∙ ap length c.self.view_is)

pub returns-else-self-lt4294967295 : goal.returns-else-self-lt4294967295
returns-else-self-lt4294967295 c =
    ap (map (λ k. k == 1))
    (c.fill.ensures.items (search rules) ∙ ap (λ (n : ℕ). replicate n 0) c.self.inside.numbers.ok.0)
    ∙ all_same (λ k. k == 1) 0 false refl (length c.self.inside.numbers.items)
    ∙ ap (λ n. replicate n false)
    (sym (length-map c.self.inside.numbers.items (λ k. k == c.self.inside.present))
    ∙ ap length c.self.view_is)
