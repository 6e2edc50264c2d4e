use Rattle.std.proofs.Common.{arith, ℕ}
use Rattle.std.proofs.lemmas.Result.{err_from_is_err_and}
use Rattle.tdm_desk.specs.Files.{Bytes}
use Rattle.text_writer.specs.Writing.{number_then}
use Rattle.text_writer.proofs.UnderWay.{brings_none, brings_more, stops_more}
use Rattle.contest_input.proofs.write.put_numbers.Goals as goal

pub loop-number-init : goal.loop-number-init
loop-number-init g c = brings_none c.args.pending.now c.args.desk.now

pub returns-in_err-put_number : goal.returns-in_err-put_number
returns-in_err-put_number g c =
    let p = err_from_is_err_and c.from_residual.result c.from_residual.ensures.1 in
    let text : ℕ → Bytes = λ number. number_then number 32 in
    rw (p.1, p.2) (stops_more text c.args.numbers.now c.loop-number.number-index 0 (omega arith)
    c.loop-number.invariant c.in_err-put_number.ensures)

pub loop-number-preserved : goal.loop-number-preserved
loop-number-preserved g c =
    let text : ℕ → Bytes = λ number. number_then number 32 in
    brings_more text c.args.numbers.now c.loop-number.number-index 0 (omega arith) c.loop-number.invariant
    c.in_ok-put_number.ensures
