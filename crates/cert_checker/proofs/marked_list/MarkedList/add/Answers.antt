use Rattle.std.proofs.Common.{◌≡◌, ◌<◌, ℕ, List, false, length, get_or, set, true, refl, sym, ap, ◌∙◌, subst, inl, arith}
use Rattle.std.specs.Prelude.{Contains}
use Rattle.std.proofs.lemmas.List.{get_or_read}
use Rattle.cert_checker.specs.MarkedLists.{Marked, AreMarked}
use Rattle.cert_checker.proofs.MarkedListLaws.{AreMarked-more}
use Rattle.cert_checker.proofs.marked_list.MarkedList.add.Goals as goal

pub returns-then-index-clause-added : goal.returns-then-index-clause-added
returns-then-index-clause-added c =
    let marks = c.self.inside.marks.items in
    let below : c.args.x < length marks =
    omega (arith, c.requires, ap (λ (m : Marked). m.limit) c.self.view_is) in
    let on : get_or marks c.args.x false ≡ true =
    sym (get_or_read marks c.args.x c.index.result.now below c.index.ensures false) ∙ c.if-index.true in
    let there : Contains c.self.inside.listed.items c.args.x = (c.self.invariant.marked c.args.x).0 on in
    inl (refl, subst (λ (m : Marked). Contains m.listed c.args.x) c.self.view_is there)

pub invariant_of-self-2 : goal.invariant_of-self-2
invariant_of-self-2 c =
    let marks = c.self.inside.marks.items in
    let below : c.args.x < length marks =
    omega (arith, c.requires, ap (λ (m : Marked). m.limit) c.self.view_is) in
    let off : get_or marks c.args.x false ≡ false =
    sym (get_or_read marks c.args.x c.index.result.now below c.index.ensures false) ∙ c.if-index.false in
    subst (λ (xs : List ℕ). AreMarked xs (set marks c.args.x true)) (sym c.in_ok-push.ensures.items)
    (AreMarked-more c.self.inside.listed.items marks c.args.x below off c.self.invariant)
