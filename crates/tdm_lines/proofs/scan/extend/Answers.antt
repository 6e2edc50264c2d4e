use Rattle.std.proofs.Common.{sym, ◌∙◌}
use Rattle.tdm_lines.proofs.TokenLemmas.{reading-push_fault, reading-push_number}
use Rattle.tdm_lines.proofs.scan.extend.Goals as goal

pub returns-in-Ok : goal.returns-in-Ok
returns-in-Ok c = λ token is.
    reading-push_number _ _ token (sym c.is_ascii_digit.ensures.value ∙ c.if-not-is_ascii_digit.false) _ _
    (sym is ∙ c.in-Ok.is) c.with_digit.ensures.fits c.with_digit.ensures.too_large

pub returns-in-Err : goal.returns-in-Err
returns-in-Err c = λ token is.
    sym (reading-push_fault _ _ token (sym c.is_ascii_digit.ensures.value ∙ c.if-not-is_ascii_digit.false)
    _ (sym is ∙ c.in-Err.is))
