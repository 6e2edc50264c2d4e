use Rattle.std.proofs.Common.{◌≡◌, ◌∷◌, [], ◌∙◌}
use Rattle.std.proofs.lemmas.Result.{err_from_is_err_and}
use Rattle.tdm_lines.specs.Digits.{digits}
use Rattle.text_writer.proofs.UnderWay.{brings_both, stops_first, stops_second}
use Rattle.text_writer.proofs.write.put_number.Goals as goal

pub returns-in_err-put : goal.returns-in_err-put
returns-in_err-put g c =
    let p = err_from_is_err_and c.from_residual.result c.from_residual.ensures.1 in
    let e : c.as_bytes.result.now ≡ digits c.args.number = c.as_bytes.ensures ∙ c.decimal.ensures.digits in
    rw (p.1, p.2, ← e) (stops_first (c.args.end ∷ []) c.in_err-put.ensures)

pub returns-in_err-put-2 : goal.returns-in_err-put-2
returns-in_err-put-2 g c =
    let p = err_from_is_err_and c.from_residual-in_err-put-2.result c.from_residual-in_err-put-2.ensures.1 in
    let e : c.as_bytes.result.now ≡ digits c.args.number = c.as_bytes.ensures ∙ c.decimal.ensures.digits in
    rw (p.1, p.2, ← e) (stops_second c.in_ok-put.ensures c.in_err-put-2.ensures)

pub returns : goal.returns
returns g c =
    let e : c.as_bytes.result.now ≡ digits c.args.number = c.as_bytes.ensures ∙ c.decimal.ensures.digits in
    rw (← e) (brings_both c.in_ok-put.ensures c.in_ok-put-2.ensures)
