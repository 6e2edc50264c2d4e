use Rattle.std.specs.List.{flat_map}
use Rattle.std.proofs.lemmas.Result.{err_from_is_err_and}
use Rattle.solution_text.specs.Text.{use_line}
use Rattle.text_writer.proofs.UnderWay.{brings_both, stops_first, stops_second}
use Rattle.solution_text.proofs.write.put_net.Goals as goal

pub returns-in_err-put_number : goal.returns-in_err-put_number
returns-in_err-put_number g c =
    let p = err_from_is_err_and c.from_residual.result c.from_residual.ensures.1 in
    rw (p.1, p.2) (stops_first (flat_map use_line c.args.uses.now) c.in_err-put_number.ensures)

pub returns-in_err-put_uses : goal.returns-in_err-put_uses
returns-in_err-put_uses g c =
    let p = err_from_is_err_and c.from_residual-in_err-put_uses.result
    c.from_residual-in_err-put_uses.ensures.1 in
    rw (p.1, p.2) (stops_second c.in_ok-put_number.ensures c.in_err-put_uses.ensures)

pub returns : goal.returns
returns g c = brings_both c.in_ok-put_number.ensures c.in_ok-put_uses.ensures
