use Rattle.std.proofs.Common.{◌≡◌, List, ℕ, length, map, get_or, ap, ◌∙◌, arith}
use Rattle.std.proofs.lemmas.List.{get_or-map, length-map}
use Rattle.tdm_problem.specs.Roots.{root_of}
use Rattle.cert_checker.proofs.RootSums.{written_back}
use Rattle.cert_checker.proofs.tests.bound_from_roots.Goals as goal

pub bound_by_shares-requires-clause-count : goal.bound_by_shares-requires-clause-count
bound_by_shares-requires-clause-count c =
    let weights : List ℕ = c.in_ok-roots.roots.items in
    let roots : c.deref.result.now ≡ map root_of weights =
    written_back weights c.deref_mut.result.now c.take_roots.new.numbers c.deref.result.now
    c.in_ok-roots.roots.len c.deref_mut.ensures.value c.take_roots.ensures c.deref_mut.ensures.len
    c.deref.ensures.value in
    ap length roots ∙ length-map weights root_of ∙ c.in_ok-roots.ensures.weights.whole

pub bound_by_shares-requires-clause-roots : goal.bound_by_shares-requires-clause-roots
bound_by_shares-requires-clause-roots c n there =
    let weights : List ℕ = c.in_ok-roots.roots.items in
    let roots : c.deref.result.now ≡ map root_of weights =
    written_back weights c.deref_mut.result.now c.take_roots.new.numbers c.deref.result.now
    c.in_ok-roots.roots.len c.deref_mut.ensures.value c.take_roots.ensures c.deref_mut.ensures.len
    c.deref.ensures.value in
    ap (λ (ns : List ℕ). get_or ns n 0) roots
    ∙ get_or-map root_of weights n 0 0 (omega (arith, there, c.in_ok-roots.ensures.weights.whole))
    ∙ ap root_of (c.in_ok-roots.ensures.weights.each n there)
