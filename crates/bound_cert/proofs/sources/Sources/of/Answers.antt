use Rattle.std.proofs.Common.{◌≡◌, ℕ, ◌+◌, ◌≤◌, List, [], ◌∷◌, ◌++◌, get_or, sym, ap, ◌∙◌, subst, arith}
use Rattle.std.specs.Prelude.{slice_index}
use Rattle.std.proofs.lemmas.Option.{get_or_from_slice_get}
use Rattle.std.proofs.lemmas.Bool.{eqb-true}
use Rattle.tdm_problem.specs.Legal.{source_of}
use Rattle.bound_cert.proofs.SourceLaws.{AreSourcesBefore, AreSourcesBefore-none, AreSourcesBefore-more, AreSourcesBefore-done, place_small}
use Rattle.bound_cert.proofs.sources.Sources.of.Goals as goal

pub loop-n-init : goal.loop-n-init
loop-n-init c =
    AreSourcesBefore-none c.args.problem.now c.new-fpgas.result.keys c.in_ok-choices.choices.items
    c.new-fpgas.ensures.empty c.in_ok-choices.ensures.items

pub overflow_cast-place : goal.overflow_cast-place
overflow_cast-place c =
    let small : c.in_ok-place.place ≤ c.loop-n.n =
    place_small c.loop-n.fpgas.keys c.insert_full.new.self.keys _ c.in_ok-place.place c.loop-n.n
    c.in_ok-place.ensures.keys c.in_ok-place.ensures.within c.loop-n.invariant.few in
    omega (arith, small)

pub overflow_add-place : goal.overflow_add-place
overflow_add-place c =
    let small : c.in_ok-place.place ≤ c.loop-n.n =
    place_small c.loop-n.fpgas.keys c.insert_full.new.self.keys _ c.in_ok-place.place c.loop-n.n
    c.in_ok-place.ensures.keys c.in_ok-place.ensures.within c.loop-n.invariant.few in
    omega (arith, small)

pub loop-n-preserved : goal.loop-n-preserved
loop-n-preserved c =
    let keys : List ℕ = c.insert_full.new.self.keys in
    let place : ℕ = c.in_ok-place.place in
    let x : ℕ = get_or c.net.result.now 0 0 in
    let source : x ≡ source_of c.args.problem.now c.loop-n.n =
    ap (λ (net : List ℕ). slice_index net 0) (sym c.net.ensures.value) in
    let stored = c.in_ok-place.ensures.stored in
    let found : slice_index keys place ≡ x = get_or_from_slice_get keys place stored.0 0 stored.1
    ∙ sym (eqb-true x stored.0 stored.2) in
    let next : AreSourcesBefore c.args.problem.now (c.loop-n.n + 1) keys
    (c.loop-n.choices.items ++ (place + 1) ∷ []) =
    AreSourcesBefore-more c.args.problem.now c.loop-n.n x place c.loop-n.fpgas.keys keys
    c.loop-n.choices.items c.loop-n.invariant (omega arith) source
    c.in_ok-place.ensures.keys c.in_ok-place.ensures.within found in
    subst (λ (choices : List ℕ). AreSourcesBefore c.args.problem.now (c.loop-n.n + 1) keys choices)
    (sym c.in_ok-push.ensures.items) next

pub returns-clause-fpgas : goal.returns-clause-fpgas
returns-clause-fpgas c =
    (AreSourcesBefore-done c.args.problem.now c.loop-n.n c.loop-n.fpgas.keys c.loop-n.choices.items
    c.loop-n.invariant (omega arith)).0

pub returns-clause-choices : goal.returns-clause-choices
returns-clause-choices c =
    (AreSourcesBefore-done c.args.problem.now c.loop-n.n c.loop-n.fpgas.keys c.loop-n.choices.items
    c.loop-n.invariant (omega arith)).1
