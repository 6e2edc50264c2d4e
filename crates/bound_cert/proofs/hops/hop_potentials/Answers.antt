use Rattle.std.proofs.Common.{◌≡◌, ℕ, ◌+◌, ◌<◌, ◌≤◌, List, [], ◌∷◌, ◌++◌, length, get_or, sym, subst, arith}
use Rattle.std.specs.Prelude.{All, slice_index}
use Rattle.std.proofs.lemmas.List.{length_push}
use Rattle.std.proofs.lemmas.List.Elements.{All-push}
use Rattle.tdm_problem.specs.Limits.{most_fpgas}
use Rattle.bound_cert.specs.Makers.{IsSourcePotential}
use Rattle.bound_cert.proofs.SourceLaws.{each_pushed}
use Rattle.bound_cert.proofs.hops.hop_potentials.Goals as goal

pub loop-source-preserved : goal.loop-source-preserved
loop-source-preserved c =
    let old : List (List ℕ) = c.loop-source.potentials.items in
    let new : List ℕ = c.in_ok-hop_potential.field-0 in
    let pushed : c.push.new.self.items ≡ old ++ new ∷ [] = c.in_ok-push.ensures.items in
    let Small : List ℕ → Type 0 = All (λ v. v ≤ most_fpgas) in
    let Short : List ℕ → Type 0 = All (λ v. v ≤ length c.args.graph.now.wires) in
    record {
      count = subst (λ (ps : List (List ℕ)). length ps ≡ c.loop-source.source-index + 1) (sym pushed)
          (omega (arith, length_push old new, c.loop-source.invariant.count));
      each = λ board same. subst (λ (ps : List (List ℕ)). (p : ℕ) → p < c.loop-source.source-index + 1
          → IsSourcePotential board (λ _. 1) (slice_index c.args.sources.now p) (get_or ps p [])) (sym pushed)
          (each_pushed (λ p potential. IsSourcePotential board (λ _. 1) (slice_index c.args.sources.now p)
          potential) old new [] c.loop-source.source-index c.loop-source.invariant.count
          (c.loop-source.invariant.each board same) (c.in_ok-hop_potential.ensures.hops board same));
      small = subst (λ (ps : List (List ℕ)). All Small ps) (sym pushed)
          (All-push Small old new c.loop-source.invariant.small c.in_ok-hop_potential.ensures.small);
      short = subst (λ (ps : List (List ℕ)). All Short ps) (sym pushed)
          (All-push Short old new c.loop-source.invariant.short c.in_ok-hop_potential.ensures.short);
    }

pub returns-clause-hops : goal.returns-clause-hops
returns-clause-hops c board same = record {
  count = omega (arith, c.loop-source.invariant.count);
  each = λ p below. c.loop-source.invariant.each board same p (omega arith);
}
