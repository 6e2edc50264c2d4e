use Rattle.std.proofs.Common.{ℕ, List, ◌≡◌, ◌<◌, ◌^◌, get_or, true, ap, arith, subst, sym, ◌∙◌}
use Rattle.tdm_lines.specs.Digits.{digits}
use Rattle.tdm_lines.specs.Tokens.{is_number, value}
use Rattle.tdm_lines.proofs.WrittenLemmas.{value-digits, is_number-digits, first-digits}
use Rattle.tdm_lines.proofs.digits.decimal.Goals as goal

below : (n : ℕ) → n < 2 ^ 128 → n < 10 ^ 64
below n lt = omega arith

pub returns-clause-number : goal.returns-clause-number
returns-clause-number c =
    let same : c.copy_of.result ≡ digits c.args.n = c.copy_of.ensures ∙ c.as_bytes.ensures.value
    ∙ c.format.ensures.text in
    let P : List ℕ → Type 0 = λ ds. is_number ds ≡ true in
    subst P (sym same) (is_number-digits c.args.n (below c.args.n (omega arith)))

pub returns-clause-reads_back : goal.returns-clause-reads_back
returns-clause-reads_back c =
    let same : c.copy_of.result ≡ digits c.args.n = c.copy_of.ensures ∙ c.as_bytes.ensures.value
    ∙ c.format.ensures.text in
    ap value same ∙ value-digits c.args.n (below c.args.n (omega arith))

pub returns-clause-no_leading_zero : goal.returns-clause-no_leading_zero
returns-clause-no_leading_zero c = λ some.
    let same : c.copy_of.result ≡ digits c.args.n = c.copy_of.ensures ∙ c.as_bytes.ensures.value
    ∙ c.format.ensures.text in
    let P : List ℕ → Type 0 = λ ds. 48 < get_or ds 0 0 in
    subst P (sym same) (first-digits c.args.n (below c.args.n (omega arith)) some)
