use Rattle.std.proofs.Common.{◌≡◌, ℕ, ◌+◌, ◌<◌, List, ◌++◌, length, get_or, take, drop, ap, sym, subst, refl, arith}
use Rattle.std.specs.Prelude.{◌==◌, max, if◌then◌else◌}
use Rattle.std.specs.List.{fold}
use Rattle.std.proofs.lemmas.Grind.{common_steps}
use Rattle.even_legalise.specs.Claims.{HasLargest}
use Rattle.even_legalise.proofs.ClaimSteps.{largest_step}
use Rattle.even_legalise.proofs.claims.largest_numbers.Goals as goal

pub loop-n-preserved : goal.loop-n-preserved
loop-n-preserved c =
    let inside : c.loop-n.n < length c.args.trees.now = omega arith in
    let is : take c.loop-n.most.len (c.raise_each.new.most ++ drop (length c.raise_each.new.most)
    c.loop-n.most.items) ≡ c.raise_each.new.most = grind (arith, common_steps) in
    let raised : (e : ℕ) → e < length c.loop-n.most.items → get_or c.raise_each.new.most e 0
    ≡ fold (λ a d. if d == e then max a (get_or c.args.s.now c.loop-n.n 0) else a)
    (get_or c.loop-n.most.items e 0) c.wires_of.result.now =
    subst (λ (old : List ℕ). (e : ℕ) → e < length old → get_or c.raise_each.new.most e 0
    ≡ fold (λ a d. if d == e then max a (get_or c.args.s.now c.loop-n.n 0) else a)
    (get_or old e 0) c.wires_of.result.now) c.deref_mut.ensures.value c.raise_each.ensures in
    subst (HasLargest (take (c.loop-n.n + 1) c.args.trees.now) (take (c.loop-n.n + 1) c.args.s.now)
    c.args.wires) (sym is)
    (largest_step c.args.trees.now c.args.s.now c.loop-n.n c.args.wires c.loop-n.most.items
    c.raise_each.new.most c.wires_of.result.now (get_or c.args.s.now c.loop-n.n 0) inside
    (omega arith) c.wires_of.ensures.value refl c.loop-n.invariant (omega (
      arith,
      c.raise_each.auto.most,
      ap length c.deref_mut.ensures.value,
      c.loop-n.invariant.whole,
    )) raised)
