use Rattle.std.proofs.Common.{◌≢◌, ◌<◌, ℕ, List, sym, subst, arith}
use Rattle.std.specs.Prelude.{All, AllPairs}
use Rattle.std.proofs.lemmas.List.Sorted.{All-permutation}
use Rattle.std.proofs.lemmas.List.Kept.{AllPairs-from_increasing}
use Rattle.cert_checker.proofs.net_growths.grow_set.Goals as goal

pub growth-requires-clause-there : goal.growth-requires-clause-there
growth-requires-clause-there c =
    let fpgas = c.args.fpgas.now in
    let rising = c.put_rising.new.rising.items in
    subst (λ (xs : List ℕ). All (λ f. f < c.args.grower.now.graph.fpgas) xs) (sym c.as_slice-3.ensures.value)
    (All-permutation (λ (f : ℕ). f < c.args.grower.now.graph.fpgas) fpgas rising c.in_ok-put_rising.ensures.same
    c.requires.there)

pub growth-requires-clause-distinct : goal.growth-requires-clause-distinct
growth-requires-clause-distinct c =
    let rising = c.put_rising.new.rising.items in
    let rises = AllPairs-from_increasing rising c.in_ok-put_rising.ensures.rising.rises in
    subst (λ (xs : List ℕ). AllPairs (λ x y. x ≢ y) xs) (sym c.as_slice-3.ensures.value)
    (λ i j d before inside same. omega (arith, rises i j d before inside, same))
