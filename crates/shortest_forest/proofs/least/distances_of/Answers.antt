use Rattle.std.proofs.Common.{◌≡◌, ℕ, ◌+◌, ◌<◌, ◌≤◌, ◌⊎◌, [], ◌∷◌, None, length, get_or, sym, ap, ◌∙◌, inl, inr, arith}
use Rattle.std.proofs.lemmas.Bool.{cases_lt}
use Rattle.std.proofs.lemmas.List.{length_push, get_or_append_left, get_or_push}
use Rattle.shortest_forest.specs.Labels.{label_at, distance_in}
use Rattle.shortest_forest.proofs.least.distances_of.Goals as goal

pub loop-f-preserved : goal.loop-f-preserved
loop-f-preserved c = (
  ap length c.in_ok-push.ensures.items ∙ length_push c.loop-f.distances.items c.distance.result
      ∙ ap (λ n. n + 1) c.loop-f.invariant.0,
  λ f below. go f below (cases_lt f c.loop-f.f),
)
  where
    go : (f : ℕ) → f < c.loop-f.f + 1 → (f < c.loop-f.f) ⊎ (c.loop-f.f ≤ f)
        → get_or c.push.new.self.items f None ≡ distance_in (label_at c.args.search.now f)
    go f below (inl before) =
        ap (λ xs. get_or xs f None) c.in_ok-push.ensures.items
        ∙ get_or_append_left c.loop-f.distances.items (c.distance.result ∷ []) None f
        (omega (arith, c.loop-f.invariant.0))
        ∙ c.loop-f.invariant.1 f before
    go f below (inr not_before) =
        let last : f ≡ c.loop-f.f = omega arith in
        ap (λ xs. get_or xs f None) c.in_ok-push.ensures.items
        ∙ get_or_push c.loop-f.distances.items c.distance.result None f (c.loop-f.invariant.0 ∙ sym last)
        ∙ c.distance.ensures
        ∙ ap (λ (n : ℕ). distance_in (label_at c.args.search.now n)) (sym last)
