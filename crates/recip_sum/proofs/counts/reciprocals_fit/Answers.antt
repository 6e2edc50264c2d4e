use Rattle.std.proofs.Common.{◌*◌, ◌≤◌, All, List, ap, sym, subst, ◌∙◌}
use Rattle.tdm_problem.specs.Fit.{product}
use Rattle.recip_sum.specs.declared.long_division.Term.{Term}
use Rattle.recip_sum.specs.LongDivision.{numerator, ratios_of, item_count, IsTerm}
use Rattle.recip_sum.proofs.Fractions.{item_count-start, IsTerm-start, fits_from_terms, terms_from_fits}
use Rattle.recip_sum.proofs.counts.reciprocals_fit.Goals as goal

pub sum_to_at_most-requires-clause-terms : goal.sum_to_at_most-requires-clause-terms
sum_to_at_most-requires-clause-terms g c =
    subst (λ (ts : List Term). All IsTerm ts) (sym c.start_terms.ensures)
    (IsTerm-start c.args.counts.now.entries c.requires.1.ratios)

pub sum_to_at_most-requires-clause-items : goal.sum_to_at_most-requires-clause-items
sum_to_at_most-requires-clause-items g c =
    c.requires.1.sum ∙ sym (item_count-start c.args.counts.now.entries)
    ∙ ap item_count (sym c.start_terms.ensures)

pub returns-clause-exact : goal.returns-clause-exact
returns-clause-exact g c =
    let es = c.args.counts.now.entries in
    let exact = c.sum_to_at_most.ensures.exact in (
      (λ yes. fits_from_terms es c.args.lanes c.requires.1.ratios
          (subst (λ (ts : List Term). numerator ts ≤ c.args.lanes * product (ratios_of ts))
          c.start_terms.ensures (exact.0 yes))),
      (λ fits. exact.1 (subst (λ (ts : List Term). numerator ts ≤ c.args.lanes * product (ratios_of ts))
          (sym c.start_terms.ensures) (terms_from_fits es c.args.lanes c.requires.1.ratios fits))),
    )
