use Rattle.std.proofs.Common.{◌≡◌, ℕ, ◌+◌, ◌<◌, ◌≤◌, ◌⊎◌, [], ◌∷◌, Option, None, length, get_or, sym, ap, ◌∙◌, subst, inl, inr, arith}
use Rattle.std.specs.Prelude.{MatchOption}
use Rattle.std.proofs.lemmas.Bool.{cases_lt}
use Rattle.std.proofs.lemmas.List.{length_push, get_or_append_left, get_or_push}
use Rattle.board_graph.specs.Graph.{board_of}
use Rattle.shortest_forest.specs.BreadthFirst.{LeadsNearer, IsFirstNearer}
use Rattle.shortest_forest.proofs.hop_forest.parents_of.Goals as goal

pub loop-f-preserved : goal.loop-f-preserved
loop-f-preserved c = (
  ap length c.in_ok-push.ensures.items ∙ length_push c.loop-f.parents.items c.nearer_wire.result
      ∙ ap (λ n. n + 1) c.loop-f.invariant.0,
  λ f below. go f below (cases_lt f c.loop-f.f),
)
  where
    Exact : ℕ → Option ℕ → Type 0
    Exact f x = MatchOption x ((e d : ℕ)
        → ¬ LeadsNearer (board_of c.args.graph.now) c.args.distances.now f e d)
        (λ e. IsFirstNearer (board_of c.args.graph.now) c.args.distances.now f e)

    go : (f : ℕ) → f < c.loop-f.f + 1 → (f < c.loop-f.f) ⊎ (c.loop-f.f ≤ f)
        → Exact f (get_or c.push.new.self.items f None)
    go f below (inl before) =
        let same = ap (λ xs. get_or xs f None) c.in_ok-push.ensures.items
        ∙ get_or_append_left c.loop-f.parents.items (c.nearer_wire.result ∷ []) None f
        (omega (arith, c.loop-f.invariant.0)) in
        subst (Exact f) (sym same) (c.loop-f.invariant.1 f before)
    go f below (inr not_before) =
        let last : f ≡ c.loop-f.f = omega arith in
        let P : ℕ → Type 0 = λ n. Exact n c.nearer_wire.result in
        let same = ap (λ xs. get_or xs f None) c.in_ok-push.ensures.items
        ∙ get_or_push c.loop-f.parents.items c.nearer_wire.result None f (c.loop-f.invariant.0
        ∙ sym last) in
        subst (Exact f) (sym same) (subst P (sym last) c.nearer_wire.ensures)
