use Rattle.std.specs.List.{flat_map}
use Rattle.std.proofs.lemmas.Result.{err_from_is_err_and}
use Rattle.tdm_lines.specs.Written.{line_text}
use Rattle.text_writer.proofs.UnderWay.{brings_both, stops_first, stops_second}
use Rattle.contest_input.specs.Canonical.{wire_line}
use Rattle.contest_input.proofs.write.put_board.Goals as goal

pub returns-in_err-put_header : goal.returns-in_err-put_header
returns-in_err-put_header g c =
    let p = err_from_is_err_and c.from_residual.result c.from_residual.ensures.1 in
    let board = c.args.problem.now in
    rw (p.1, p.2) (stops_first (flat_map line_text board.groups) (stops_first (flat_map line_text board.nets)
    (stops_first (flat_map wire_line board.wires) c.in_err-put_header.ensures)))

pub returns-in_err-put_wires : goal.returns-in_err-put_wires
returns-in_err-put_wires g c =
    let p = err_from_is_err_and c.from_residual-in_err-put_wires.result
    c.from_residual-in_err-put_wires.ensures.1 in
    let board = c.args.problem.now in
    rw (p.1, p.2) (stops_first (flat_map line_text board.groups) (stops_first (flat_map line_text board.nets)
    (stops_second c.in_ok-put_header.ensures c.in_err-put_wires.ensures)))

pub returns-in_err-put_nets : goal.returns-in_err-put_nets
returns-in_err-put_nets g c =
    let p = err_from_is_err_and c.from_residual-in_err-put_nets.result
    c.from_residual-in_err-put_nets.ensures.1 in
    rw (p.1, p.2) (stops_first (flat_map line_text c.args.problem.now.groups)
    (stops_second (brings_both c.in_ok-put_header.ensures c.in_ok-put_wires.ensures)
    c.in_err-put_nets.ensures))

pub returns-in_err-put_groups : goal.returns-in_err-put_groups
returns-in_err-put_groups g c =
    let p = err_from_is_err_and c.from_residual-in_err-put_groups.result
    c.from_residual-in_err-put_groups.ensures.1 in
    rw (p.1, p.2) (stops_second (brings_both
    (brings_both c.in_ok-put_header.ensures c.in_ok-put_wires.ensures)
    c.in_ok-put_nets.ensures) c.in_err-put_groups.ensures)

pub returns : goal.returns
returns g c = brings_both (brings_both (brings_both c.in_ok-put_header.ensures c.in_ok-put_wires.ensures)
    c.in_ok-put_nets.ensures) c.in_ok-put_groups.ensures
