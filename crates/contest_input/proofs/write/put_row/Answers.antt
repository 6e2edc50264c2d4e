use Rattle.std.proofs.Common.{◌-◌, length, get_or}
use Rattle.std.proofs.lemmas.Result.{err_from_is_err_and}
use Rattle.text_writer.specs.Writing.{number_then}
use Rattle.text_writer.proofs.UnderWay.{brings_both, stops_first, stops_second}
use Rattle.text_writer.proofs.LineParts.{line-split}
use Rattle.contest_input.proofs.write.put_row.Goals as goal

pub returns-in_err-put_numbers : goal.returns-in_err-put_numbers
returns-in_err-put_numbers g c =
    let p = err_from_is_err_and c.from_residual.result c.from_residual.ensures.1 in
    let last = number_then (get_or c.args.numbers.now (length c.args.numbers.now - 1) 0) 10 in
    rw (p.1, p.2, ← line-split c.args.numbers.now c.requires.some)
    (stops_first last c.in_err-put_numbers.ensures)

pub returns-in_err-put_number : goal.returns-in_err-put_number
returns-in_err-put_number g c =
    let p = err_from_is_err_and c.from_residual-in_err-put_number.result
    c.from_residual-in_err-put_number.ensures.1 in
    rw (p.1, p.2, ← line-split c.args.numbers.now c.requires.some)
    (stops_second c.in_ok-put_numbers.ensures c.in_err-put_number.ensures)

pub returns : goal.returns
returns g c = rw (← line-split c.args.numbers.now c.requires.some)
    (brings_both c.in_ok-put_numbers.ensures c.in_ok-put_number.ensures)
