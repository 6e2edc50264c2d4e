use Rattle.std.proofs.Common.{◌≡◌, [], ◌∷◌, ℕ, List, length, arith, ap, sym, subst, ◌∙◌}
use Rattle.std.proofs.lemmas.List.{nil_from_length}
use Rattle.tdm_problem.specs.Fit.{FitsLanes}
use Rattle.recip_sum.specs.Counts.{items}
use Rattle.recip_sum.specs.Items.{items_of}
use Rattle.recip_sum.specs.LeastEven.{IsLeastEven}
use Rattle.recip_sum.proofs.Views.{items-seen}
use Rattle.recip_sum.proofs.Trials.{IsLeastEven-alone}
use Rattle.recip_sum.proofs.counts.Counts.least_even.Goals as goal

pub returns-then-self-eq0-clause-least : goal.returns-then-self-eq0-clause-least
returns-then-self-eq0-clause-least g c =
    let same : items_of c.self.inside.counts.entries ≡ items c.args.self.now =
    sym (items-seen c.self.inside.counts.entries c.self.invariant.ordered) ∙ ap items c.self.view_is in
    let none : items c.args.self.now ≡ [] =
    nil_from_length (items c.args.self.now) (omega (
      arith,
      ap length same,
      c.self.invariant.sum,
      c.if-self-eq0.true,
    )) in
    IsLeastEven-alone (items c.args.self.now) c.args.lanes none c.requires.room

pub least_even_of-requires-clause-few : goal.least_even_of-requires-clause-few
least_even_of-requires-clause-few g c =
    let same : items_of c.self.inside.counts.entries ≡ items c.args.self.now =
    sym (items-seen c.self.inside.counts.entries c.self.invariant.ordered) ∙ ap items c.self.view_is in
    omega (arith, ap length same, c.self.invariant.sum, c.requires.few)

pub least_even_of-requires-clause-room : goal.least_even_of-requires-clause-room
least_even_of-requires-clause-room g c =
    let same : items_of c.self.inside.counts.entries ≡ items c.args.self.now =
    sym (items-seen c.self.inside.counts.entries c.self.invariant.ordered) ∙ ap items c.self.view_is in
    subst (λ (xs : List ℕ). FitsLanes (4294967294 ∷ xs) c.args.lanes) (sym same) c.requires.room

pub returns-clause-least : goal.returns-clause-least
returns-clause-least g c =
    let same : items_of c.self.inside.counts.entries ≡ items c.args.self.now =
    sym (items-seen c.self.inside.counts.entries c.self.invariant.ordered) ∙ ap items c.self.view_is in
    subst (λ (xs : List ℕ). IsLeastEven xs c.args.lanes c.least_even_of.result) same
    c.least_even_of.ensures.least
