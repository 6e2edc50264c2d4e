use Rattle.std.proofs.Common.{◌≡◌, ◌≢◌, ℕ, ◌⊎◌, length, get_or, sym, ap, ◌∙◌, inl, inr, true, false, set, get_or-set_same, get_or-set_other}
use Rattle.std.proofs.lemmas.Bool.{cases_eq}
use Rattle.std.proofs.lemmas.List.{length-set}
use Rattle.shortest_forest.specs.Arcs.{IsGoal}
use Rattle.shortest_forest.specs.Labels.{IsAtLabel}
use Rattle.shortest_forest.proofs.UnderWay.{IsUnderWay-goals}
use Rattle.shortest_forest.proofs.search.Search.remove_goal.Goals as goal

pub returns-clause-under_way : goal.returns-clause-under_way
returns-clause-under_way c =
    IsUnderWay-goals c.args.self.now c.mark.new.self c.mark.ensures.labels c.mark.ensures.queue
    (ap length c.mark.ensures.goals ∙ length-set c.args.self.now.goals c.args.f false)
    (λ f d at goal. still f d at goal (cases_eq f c.args.f))
  where
    still : (f d : ℕ) → IsAtLabel c.args.self.now f d → IsGoal c.mark.new.self.goals f → (f ≡ c.args.f)
        ⊎ (f ≢ c.args.f) → IsGoal c.args.self.now.goals f
    still f d at goal (inl same) =
        let off : get_or c.mark.new.self.goals f false ≡ false =
        ap (λ gs. get_or gs f false) c.mark.ensures.goals
        ∙ ap (λ (n : ℕ). get_or (set c.args.self.now.goals c.args.f false) n false) same
        ∙ get_or-set_same c.args.self.now.goals c.args.f false false c.requires in
        let both : true ≡ false = sym goal ∙ off in
        absurd (cc both)
    still f d at goal (inr other) =
        sym (ap (λ gs. get_or gs f false) c.mark.ensures.goals
        ∙ get_or-set_other c.args.self.now.goals c.args.f f false false other) ∙ goal
