use Rattle.std.proofs.Common.{◌≡◌, ℕ, ◌+◌, ◌<◌, ◌≤◌, List, [], ◌∷◌, ◌++◌, length, map, sym, subst, arith}
use Rattle.std.specs.Prelude.{All, slice_index}
use Rattle.std.proofs.lemmas.List.{length_push}
use Rattle.std.proofs.lemmas.List.Elements.{All-push}
use Rattle.tdm_problem.specs.Value.{largest}
use Rattle.bound_cert.specs.Certificate.{value_at}
use Rattle.bound_cert.specs.Depths.{IsDepth}
use Rattle.tdm_problem.specs.Legal.{source_of}
use Rattle.bound_cert.specs.Makers.{IsSourcePotential}
use Rattle.bound_cert.proofs.SourceLaws.{each_pushed}
use Rattle.bound_cert.proofs.Choices.{chosen, chosen_read, row_chosen}
use Rattle.bound_cert.proofs.DepthLaws.{IsDepthOf, depth_read}
use Rattle.bound_cert.proofs.hops.depths_of.Goals as goal

pub loop-n-preserved : goal.loop-n-preserved
loop-n-preserved c =
    let old : List ℕ = c.loop-n.depths.items in
    let new : ℕ = c.largest_value.result in
    let row : List ℕ = c.index-potentials-choices.result in
    let choice : ℕ = slice_index c.args.choices.now c.loop-n.n in
    let there : c.loop-n.n < length c.args.problem.now.nets = omega arith in
    let chose = chosen c.args.problem.now (λ _. 1) c.args.potentials.now c.args.choices.now c.loop-n.n
    c.requires.potentials c.requires.choices there in
    let hops : IsSourcePotential c.args.problem.now (λ _. 1) (source_of c.args.problem.now c.loop-n.n) row =
    chosen_read c.args.problem.now (λ _. 1) c.args.potentials.now c.loop-n.n choice row chose
    c.index-potentials-choices.is in
    let values : c.values.result.now ≡ row = c.values.ensures in
    let depth : IsDepthOf c.args.problem.now c.loop-n.n new row =
    depth_read c.args.problem.now c.loop-n.n new row c.net.result.now c.nets.ensures.board there
    (c.requires.connectable c.loop-n.n there) hops c.net.ensures.value
    (subst (λ (vs : List ℕ). new ≡ largest (map (value_at vs) c.net.result.now)) values
    c.largest_value.ensures) in
    let pushed : c.push.new.self.items ≡ old ++ new ∷ [] = c.in_ok-push.ensures.items in
    record {
      count = subst (λ (hs : List ℕ). length hs ≡ c.loop-n.n + 1) (sym pushed)
          (omega (arith, length_push old new, c.loop-n.invariant.count));
      each = subst (λ (hs : List ℕ). (k : ℕ) → k < c.loop-n.n + 1
          → IsDepth c.args.problem.now k (slice_index hs k)) (sym pushed)
          (each_pushed (λ k h. IsDepth c.args.problem.now k h) old new 0 c.loop-n.n c.loop-n.invariant.count
          c.loop-n.invariant.each depth.is);
      within = λ most small. subst (λ (hs : List ℕ). All (λ h. h ≤ most) hs) (sym pushed)
          (All-push (λ h. h ≤ most) old new (c.loop-n.invariant.within most small)
          (depth.within most
          (subst (λ (vs : List ℕ). All (λ v. v ≤ most) vs)
          (sym (row_chosen c.args.problem.now (λ _. 1) c.args.potentials.now c.loop-n.n choice row
          chose c.index-potentials-choices.is))
          (small chose.place [] chose.there))));
    }
