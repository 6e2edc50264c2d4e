use Rattle.std.proofs.Common.{◌≡◌, ℕ, ◌+◌, ◌<◌, ◌≤◌, List, [], ◌∷◌, ◌++◌, length, get_or, sym, subst, arith}
use Rattle.std.specs.Prelude.{All, slice_index}
use Rattle.std.proofs.lemmas.List.{length_push}
use Rattle.std.proofs.lemmas.List.Elements.{All-push}
use Rattle.bound_cert.specs.Limits.{most_potential_value}
use Rattle.bound_cert.specs.Makers.{IsSourcePotential}
use Rattle.bound_cert.proofs.SourceLaws.{each_pushed}
use Rattle.bound_cert.proofs.weighted_maker.length_potentials.Goals as goal

pub loop-source-preserved : goal.loop-source-preserved
loop-source-preserved c =
    let old : List (List ℕ) = c.loop-source.potentials.items in
    let new : List ℕ = c.in_ok-length_potential.field-0 in
    let pushed : c.push.new.self.items ≡ old ++ new ∷ [] = c.in_ok-push.ensures.items in
    let Within : List ℕ → Type 0 = All (λ v. v ≤ most_potential_value) in
    let wire_length : ℕ → ℕ = λ e. get_or c.args.lengths.now e 0 in
    record {
      count = subst (λ (ps : List (List ℕ)). length ps ≡ c.loop-source.source-index + 1) (sym pushed)
          (omega (arith, length_push old new, c.loop-source.invariant.count));
      each = λ board same. subst (λ (ps : List (List ℕ)). (p : ℕ) → p < c.loop-source.source-index + 1
          → IsSourcePotential board wire_length (slice_index c.args.sources.now p) (get_or ps p []))
          (sym pushed)
          (each_pushed (λ p potential. IsSourcePotential board wire_length (slice_index c.args.sources.now p)
          potential) old new [] c.loop-source.source-index c.loop-source.invariant.count
          (c.loop-source.invariant.each board same) (c.in_ok-length_potential.ensures.least board same));
      within = subst (λ (ps : List (List ℕ)). All Within ps) (sym pushed)
          (All-push Within old new c.loop-source.invariant.within c.in_ok-length_potential.ensures.within);
    }

pub returns-clause-least : goal.returns-clause-least
returns-clause-least c board same = record {
  count = omega (arith, c.loop-source.invariant.count);
  each = λ p below. c.loop-source.invariant.each board same p (omega arith);
}
