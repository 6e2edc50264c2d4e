use Rattle.std.proofs.Common.{◌≡◌, arith, ap, sym, subst, ◌∙◌, true, not, nat_eq}
use Rattle.std.specs.Cmp.Lexicographic.{pointwise}
use Rattle.std.proofs.lemmas.Bool.{false≢true}
use Rattle.std.proofs.lemmas.Cmp.{nat_list_eq_equiv}
use Rattle.tdm_lines.specs.Digits.{digits}
use Rattle.tdm_cli.proofs.WordLaws.{number-parsed}
use Rattle.tdm_cli.proofs.command.number.Goals as goal

pub returns-in_default-clause-none : goal.returns-in_default-clause-none
returns-in_default-clause-none c = λ n is.
    let parsed = number-parsed c.args.word.now c.args.most n c.parse.result
    (omega arith) c.parse.ensures.value.0 is in
    absurd (cc (parsed, c.in_default.is))

pub returns-then-number-most-clause-none : goal.returns-then-number-most-clause-none
returns-then-number-most-clause-none c = λ n is.
    let parsed = number-parsed c.args.word.now c.args.most n c.parse.result
    (omega arith) c.parse.ensures.value.0 is in
    let same : n ≡ c.in-Ok.number = cc (parsed, c.in-Ok.is) in
    absurd (omega (arith, same, is.1, c.if-number-most.true))

pub returns-then-ne-clause-none : goal.returns-then-ne-clause-none
returns-then-ne-clause-none c = λ n is.
    let parsed = number-parsed c.args.word.now c.args.most n c.parse.result
    (omega arith) c.parse.ensures.value.0 is in
    let same : n ≡ c.in-Ok.number = cc (parsed, c.in-Ok.is) in
    let number : n ≡ c.from.result = same ∙ sym c.from.ensures in
    let printed : c.as_bytes.result.now ≡ c.as_bytes-2.result.now =
    c.as_bytes.ensures ∙ c.decimal.ensures.digits ∙ sym (ap digits number) ∙ sym is.0
    ∙ sym c.as_bytes-2.ensures.value in
    let equal : pointwise nat_eq c.as_bytes.result.now c.as_bytes-2.result.now ≡ true =
    subst (λ text. pointwise nat_eq c.as_bytes.result.now text ≡ true) printed
    (nat_list_eq_equiv.refl c.as_bytes.result.now) in
    absurd (false≢true (sym (c.if-ne.ensures ∙ ap not equal)))
