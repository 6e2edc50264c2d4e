use Rattle.std.proofs.Common.{◌≡◌, ◌∙◌, ◌-◌, ◌++◌, ℕ, List, ap, sym, length, take, drop, map, arith}
use Rattle.std.proofs.lemmas.List.{append-nil, drop_all, take_all, length-map}
use Rattle.tdm_desk.specs.Plan.{fails_next, after_call}
use Rattle.tdm_desk.proofs.plan.Countdowns.next_call.Goals as goal

pub returns-clause-answer : goal.returns-clause-answer
unfolding fails_next
returns-clause-answer c = c.contains-fails.ensures.value
    ∙ ap fails_next (c.deref.ensures.value ∙ c.self.view_is)

-- a list that was put back whole
put_back : (n : ℕ) (xs ys : List ℕ) → length xs ≡ length ys → n ≡ length ys
    → take n (xs ++ drop (length xs) ys) ≡ xs
put_back n xs ys same all =
    ap (λ rest. take n (xs ++ rest)) (drop_all (length xs) ys (omega (arith, same)))
    ∙ ap (take n) (append-nil xs)
    ∙ take_all n xs (omega (arith, same, all))

pub returns-clause-after : goal.returns-clause-after
unfolding after_call
returns-clause-after c =
    let items : c.deref_mut.result.now ≡ c.self.inside.calls.items = c.deref_mut.ensures.value in
    let lowered : c.lower.new.numbers ≡ map (λ n. n - 1) c.self.inside.calls.items = c.lower.ensures
    ∙ ap (map (λ n. n - 1)) items in
    put_back c.self.inside.calls.len c.lower.new.numbers c.self.inside.calls.items
    (ap length lowered ∙ length-map c.self.inside.calls.items (λ n. n - 1))
    (sym c.deref.ensures.len ∙ ap length c.deref.ensures.value)
    ∙ lowered ∙ ap after_call c.self.view_is
