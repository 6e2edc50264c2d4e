use Rattle.std.specs.List.{flat_map}
use Rattle.std.proofs.lemmas.Result.{err_from_is_err_and}
use Rattle.tdm_desk.specs.Files.{Bytes}
use Rattle.tdm_lines.specs.Written.{line_text}
use Rattle.text_writer.proofs.UnderWay.{brings_both, stops_first, stops_second}
use Rattle.bound_cert.specs.Certificate.{Cert}
use Rattle.bound_cert.specs.CertText.{listed_lengths, listed_choices, number_line}
use Rattle.bound_cert.proofs.write.put_cert.Goals as goal

abbrev weights_text : Cert → Bytes
weights_text cert = flat_map number_line cert.weights

abbrev lengths_text : Cert → Bytes
lengths_text cert = flat_map number_line (listed_lengths cert.kind cert.lengths)

abbrev potentials_text : Cert → Bytes
potentials_text cert = flat_map line_text cert.potentials

abbrev choices_text : Cert → Bytes
choices_text cert = flat_map number_line (listed_choices cert.grows cert.choices)

pub returns-in_err-put_header : goal.returns-in_err-put_header
returns-in_err-put_header g c =
    let p = err_from_is_err_and c.from_residual.result c.from_residual.ensures.1 in
    let cert = c.args.cert.now in
    rw (p.1, p.2) (stops_first (choices_text cert) (stops_first (potentials_text cert)
    (stops_first (lengths_text cert) (stops_first (weights_text cert) c.in_err-put_header.ensures))))

pub returns-in_err-put_numbers : goal.returns-in_err-put_numbers
returns-in_err-put_numbers g c =
    let p = err_from_is_err_and c.from_residual-in_err-put_numbers.result
    c.from_residual-in_err-put_numbers.ensures.1 in
    let cert = c.args.cert.now in
    rw (p.1, p.2) (stops_first (choices_text cert) (stops_first (potentials_text cert)
    (stops_first (lengths_text cert) (stops_second c.in_ok-put_header.ensures
    (rw c.weights.ensures at c.in_err-put_numbers.ensures)))))

pub returns-in_err-put_numbers-2 : goal.returns-in_err-put_numbers-2
returns-in_err-put_numbers-2 g c =
    let p = err_from_is_err_and c.from_residual-in_err-put_numbers-2.result
    c.from_residual-in_err-put_numbers-2.ensures.1 in
    let cert = c.args.cert.now in
    rw (p.1, p.2) (stops_first (choices_text cert) (stops_first (potentials_text cert)
    (stops_second (brings_both c.in_ok-put_header.ensures
    (rw c.weights.ensures at c.in_ok-put_numbers.ensures))
    (rw c.listed_lengths.ensures at c.in_err-put_numbers-2.ensures))))

pub returns-in_err-put_potentials : goal.returns-in_err-put_potentials
returns-in_err-put_potentials g c =
    let p = err_from_is_err_and c.from_residual-in_err-put_potentials.result
    c.from_residual-in_err-put_potentials.ensures.1 in
    rw (p.1, p.2) (stops_first (choices_text c.args.cert.now) (stops_second (brings_both
    (brings_both c.in_ok-put_header.ensures (rw c.weights.ensures at c.in_ok-put_numbers.ensures))
    (rw c.listed_lengths.ensures at c.in_ok-put_numbers-2.ensures)) c.in_err-put_potentials.ensures))

pub returns-in_err-put_choices : goal.returns-in_err-put_choices
returns-in_err-put_choices g c =
    let p = err_from_is_err_and c.from_residual-in_err-put_choices.result
    c.from_residual-in_err-put_choices.ensures.1 in
    rw (p.1, p.2) (stops_second (brings_both (brings_both
    (brings_both c.in_ok-put_header.ensures (rw c.weights.ensures at c.in_ok-put_numbers.ensures))
    (rw c.listed_lengths.ensures at c.in_ok-put_numbers-2.ensures)) c.in_ok-put_potentials.ensures)
    (rw c.listed_choices.ensures at c.in_err-put_choices.ensures))

pub returns : goal.returns
returns g c = brings_both (brings_both (brings_both
    (brings_both c.in_ok-put_header.ensures (rw c.weights.ensures at c.in_ok-put_numbers.ensures))
    (rw c.listed_lengths.ensures at c.in_ok-put_numbers-2.ensures)) c.in_ok-put_potentials.ensures)
    (rw c.listed_choices.ensures at c.in_ok-put_choices.ensures)
