use Rattle.std.proofs.Common.{ℕ, ◌*◌, ◌^◌, ◌≤◌, ◌<◌, List, ◌∷◌, All, arith, refl, sym, ap, subst}
use Rattle.std.specs.Map.{keys_of}
use Rattle.std.proofs.Math.Nat.{div-le_self}
use Rattle.std.proofs.lemmas.List.Elements.{All-cons}
use Rattle.std.proofs.lemmas.List.Sums.{sum_by-cons}
use Rattle.tdm_problem.specs.Fit.{product}
use Rattle.recip_sum.specs.declared.long_division.Term.{Term}
use Rattle.recip_sum.specs.LongDivision.{numerator, ratios_of, item_count, IsTerm}
use Rattle.recip_sum.specs.Items.{items_of}
use Rattle.recip_sum.specs.Kept.{IsRatio}
use Rattle.recip_sum.specs.Rounded.{floor_of}
use Rattle.recip_sum.proofs.Fractions.{item_count-start, IsTerm-start, fits_from_terms, terms_from_fits}
use Rattle.recip_sum.proofs.Items.{items_of-positive, some_ratio}
use Rattle.recip_sum.proofs.RoundedSums.{floor_sum-most, fits_from_floors, floors-fit}
use Rattle.recip_sum.proofs.Trials.{tried}
use Rattle.recip_sum.proofs.least_even.fits_with.Goals as goal

pub overflow_add-floors : goal.overflow_add-floors
overflow_add-floors g c =
    omega (
      arith,
      c.requires.kept.rounded,
      c.requires.kept.sum,
      c.requires.few,
      floor_sum-most (items_of c.args.counts.now.entries),
      c.floor_from.ensures,
      div-le_self (2 ^ 64) c.args.ratio,
    )

pub overflow_add-floors-2 : goal.overflow_add-floors-2
overflow_add-floors-2 g c =
    omega (
      arith,
      c.requires.kept.rounded,
      c.requires.kept.sum,
      c.requires.few,
      floor_sum-most (items_of c.args.counts.now.entries),
      c.floor_from.ensures,
      div-le_self (2 ^ 64) c.args.ratio,
    )

pub overflow_add-floors-3 : goal.overflow_add-floors-3
overflow_add-floors-3 g c =
    omega (
      arith,
      c.requires.kept.rounded,
      c.requires.kept.sum,
      c.requires.few,
      floor_sum-most (items_of c.args.counts.now.entries),
      c.floor_from.ensures,
      div-le_self (2 ^ 64) c.args.ratio,
    )

pub returns-then-floors-totals-clause-exact : goal.returns-then-floors-totals-clause-exact
returns-then-floors-totals-clause-exact g c =
    let es = c.args.counts.now.entries in
    let positive = All-cons (λ r. 0 < r) c.args.ratio (items_of es) c.requires.positive
    (items_of-positive es c.requires.kept.ratios) in
    let sum = sum_by-cons floor_of c.args.ratio (items_of es) in
    let fits = fits_from_floors (c.args.ratio ∷ items_of es) c.args.lanes positive
    (omega (arith, sum, c.requires.kept.rounded, c.requires.kept.sum, c.floor_from.ensures)) in
    ((λ _. fits), (λ _. refl))

pub returns-then-floors-most-clause-exact : goal.returns-then-floors-most-clause-exact
returns-then-floors-most-clause-exact g c =
    let es = c.args.counts.now.entries in
    let positive = All-cons (λ r. 0 < r) c.args.ratio (items_of es) c.requires.positive
    (items_of-positive es c.requires.kept.ratios) in
    let sum = sum_by-cons floor_of c.args.ratio (items_of es) in (
      (λ never. cc),
      (λ fits.
          let most = floors-fit (c.args.ratio ∷ items_of es) c.args.lanes positive fits in
          absurd (omega (arith, most, sum, c.requires.kept.rounded, c.floor_from.ensures))),
    )

pub sum_to_at_most-requires-clause-terms : goal.sum_to_at_most-requires-clause-terms
sum_to_at_most-requires-clause-terms g c =
    let es = c.args.counts.now.entries in
    let is = tried c.args.terms.now es c.len.result c.args.ratio c.start_terms.new.terms c.len.ensures.len
    (omega (
      arith,
      c.requires.kept.space,
      c.len.ensures.len,
      some_ratio es (omega (arith, c.requires.some, c.requires.kept.sum)),
    )) c.start_terms.ensures in
    let start = All-cons IsRatio c.args.ratio (keys_of es) (
      c.requires.positive,
      c.ranges.ratio.fits,
    ) c.requires.kept.ratios in
    subst (λ (ts : List Term). All IsTerm ts) (sym is) (IsTerm-start ((c.args.ratio, 1) ∷ es) start)

pub sum_to_at_most-requires-clause-items : goal.sum_to_at_most-requires-clause-items
sum_to_at_most-requires-clause-items g c =
    let es = c.args.counts.now.entries in
    let is = tried c.args.terms.now es c.len.result c.args.ratio c.start_terms.new.terms c.len.ensures.len
    (omega (
      arith,
      c.requires.kept.space,
      c.len.ensures.len,
      some_ratio es (omega (arith, c.requires.some, c.requires.kept.sum)),
    )) c.start_terms.ensures in
    omega (arith, c.requires.kept.sum, item_count-start ((c.args.ratio, 1) ∷ es), ap item_count is)

pub returns-clause-exact : goal.returns-clause-exact
returns-clause-exact g c =
    let es = c.args.counts.now.entries in
    let more : List (ℕ × ℕ) = (c.args.ratio, 1) ∷ es in
    let is = tried c.args.terms.now es c.len.result c.args.ratio c.start_terms.new.terms c.len.ensures.len
    (omega (
      arith,
      c.requires.kept.space,
      c.len.ensures.len,
      some_ratio es (omega (arith, c.requires.some, c.requires.kept.sum)),
    )) c.start_terms.ensures in
    let start = All-cons IsRatio c.args.ratio (keys_of es) (
      c.requires.positive,
      c.ranges.ratio.fits,
    ) c.requires.kept.ratios in
    let exact = c.sum_to_at_most.ensures.exact in (
      (λ yes. fits_from_terms more c.args.lanes start
          (subst (λ (ts : List Term). numerator ts ≤ c.args.lanes * product (ratios_of ts)) is
          (exact.0 yes))),
      (λ fits. exact.1 (subst (λ (ts : List Term). numerator ts ≤ c.args.lanes * product (ratios_of ts))
          (sym is) (terms_from_fits more c.args.lanes start fits))),
    )
