use Rattle.std.proofs.Common.{◌≡◌, ◌≢◌, ℕ, ◌⊎◌, length, get_or, sym, ap, ◌∙◌, inl, inr, true, false, get_or-set_other}
use Rattle.std.proofs.lemmas.Bool.{cases_eq}
use Rattle.std.proofs.lemmas.List.{length-set}
use Rattle.shortest_forest.specs.Arcs.{IsGoal}
use Rattle.shortest_forest.specs.Labels.{IsAtLabel, label_at}
use Rattle.shortest_forest.proofs.UnderWay.{IsUnderWay-goals, unlabelled}
use Rattle.shortest_forest.proofs.search.Search.add_goal.Goals as goal

pub returns-clause-under_way : goal.returns-clause-under_way
returns-clause-under_way c =
    IsUnderWay-goals c.args.self.now c.mark.new.self c.mark.ensures.labels c.mark.ensures.queue
    (ap length c.mark.ensures.goals ∙ length-set c.args.self.now.goals c.args.f true)
    (λ f d at goal. still f d at goal (cases_eq f c.args.f))
  where
    still : (f d : ℕ) → IsAtLabel c.args.self.now f d → IsGoal c.mark.new.self.goals f → (f ≡ c.args.f)
        ⊎ (f ≢ c.args.f) → IsGoal c.args.self.now.goals f
    still f d at goal (inl same) =
        unlabelled c.args.self.now f d (ap (label_at c.args.self.now) same ∙ c.requires.unlabelled) at
    still f d at goal (inr other) =
        sym (ap (λ gs. get_or gs f false) c.mark.ensures.goals
        ∙ get_or-set_other c.args.self.now.goals c.args.f f true false other) ∙ goal
