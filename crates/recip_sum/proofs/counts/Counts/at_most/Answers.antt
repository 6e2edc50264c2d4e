use Rattle.std.proofs.Common.{◌≡◌, ◌+◌, ◌*◌, ◌≤◌, ℕ, List, length, arith, refl, ap, sym, subst, ◌∙◌}
use Rattle.std.specs.FinMap as map
use Rattle.tdm_problem.specs.Fit.{FitsLanes}
use Rattle.recip_sum.specs.Counts.{items}
use Rattle.recip_sum.specs.Items.{items_of}
use Rattle.recip_sum.specs.Rounded.{floor_sum}
use Rattle.recip_sum.proofs.Items.{items_of-positive}
use Rattle.recip_sum.proofs.RoundedSums.{floor_sum-most, fits_from_floors, floors-fit}
use Rattle.recip_sum.proofs.Views.{items-seen, len-seen}
use Rattle.recip_sum.proofs.counts.Counts.at_most.Goals as goal

pub overflow_add-self-inside : goal.overflow_add-self-inside
overflow_add-self-inside g c =
    omega (
      arith,
      c.self.invariant.rounded,
      c.self.invariant.sum,
      c.self.invariant.few,
      floor_sum-most (items_of c.self.inside.counts.entries),
    )

pub returns-then-self-most-clause-exact : goal.returns-then-self-most-clause-exact
returns-then-self-most-clause-exact g c =
    let es = c.self.inside.counts.entries in
    let same : items_of es ≡ items c.args.self.now = sym (items-seen es c.self.invariant.ordered)
    ∙ ap items c.self.view_is in
    let fits = fits_from_floors (items_of es) c.args.lanes (items_of-positive es c.self.invariant.ratios)
    (omega (arith, c.self.invariant.rounded, c.self.invariant.sum)) in
    ((λ _. subst (λ (xs : List ℕ). FitsLanes xs c.args.lanes) same fits), (λ _. refl))

pub returns-then-self-most-2-clause-exact : goal.returns-then-self-most-2-clause-exact
returns-then-self-most-2-clause-exact g c =
    let es = c.self.inside.counts.entries in
    let same : items_of es ≡ items c.args.self.now = sym (items-seen es c.self.invariant.ordered)
    ∙ ap items c.self.view_is in (
      (λ never. cc),
      (λ fits.
          let most = floors-fit (items_of es) c.args.lanes (items_of-positive es c.self.invariant.ratios)
          (subst (λ (xs : List ℕ). FitsLanes xs c.args.lanes) (sym same) fits) in
          absurd (omega (arith, most, c.self.invariant.rounded))),
    )

pub returns-clause-sure_yes : goal.returns-clause-sure_yes
returns-clause-sure_yes g c = λ sure.
    let es = c.self.inside.counts.entries in
    let same : items_of es ≡ items c.args.self.now = sym (items-seen es c.self.invariant.ordered)
    ∙ ap items c.self.view_is in
    absurd (omega (
      arith,
      sure,
      ap floor_sum same,
      ap length same,
      c.self.invariant.rounded,
      c.self.invariant.sum,
      c.if-self-most.false,
    ))

pub returns-clause-sure_no : goal.returns-clause-sure_no
returns-clause-sure_no g c = λ sure.
    let es = c.self.inside.counts.entries in
    let same : items_of es ≡ items c.args.self.now = sym (items-seen es c.self.invariant.ordered)
    ∙ ap items c.self.view_is in
    absurd (omega (arith, sure, ap floor_sum same, c.self.invariant.rounded, c.if-self-most-2.false))

pub returns-clause-exact : goal.returns-clause-exact
returns-clause-exact g c =
    let same = sym (items-seen c.self.inside.counts.entries c.self.invariant.ordered)
    ∙ ap items c.self.view_is in
    let exact = c.reciprocals_fit.ensures.exact in (
      (λ yes. subst (λ (xs : List ℕ). FitsLanes xs c.args.lanes) same (exact.0 yes)),
      (λ fits. exact.1 (subst (λ (xs : List ℕ). FitsLanes xs c.args.lanes) (sym same) fits)),
    )

pub returns-clause-few_steps : goal.returns-clause-few_steps
returns-clause-few_steps g c =
    let same = sym (len-seen c.self.inside.counts.entries c.self.invariant.ordered)
    ∙ ap map.len c.self.view_is in
    subst (λ (d : ℕ). c.reciprocals_fit.new.steps ≤ c.args.steps.now + d * (d + 1)) same
    c.reciprocals_fit.ensures.few_steps
