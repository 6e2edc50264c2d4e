use Rattle.std.proofs.Common.{◌<◌, arith, length, string_bytes}
use Rattle.command_run.proofs.ResultLaws.{map-err}
use Rattle.command_run.proofs.OutputLaws.{not-empty, list-begun-first, list-begun-later}
use Rattle.command_run.proofs.writing.+write_files.Goals as goal

pub returns-in-Err-clause-err : goal.returns-in-Err-clause-err
returns-in-Err-clause-err g t c =
    let some : 0 < length c.args.texts.now =
    not-empty (length c.args.texts.now) c.is_empty.result c.if-is_empty.false c.is_empty.ensures in
    list-begun-first string_bytes g.T.OutputText.text _ _ c.args.names.now c.args.texts.now
    c.index-names-0.result c.index-texts-0.result (omega (arith, some, c.requires.named)) some
    c.index-names-0.is c.index-texts-0.is
    (rw c.as_str.ensures.value at c.in-Err.ensures.err)

pub returns-clause-err : goal.returns-clause-err
returns-clause-err g t c =
    let some : 0 < length c.args.texts.now =
    not-empty (length c.args.texts.now) c.is_empty.result c.if-is_empty.false c.is_empty.ensures in
    map-err _ _ _ (λ part. list-begun-later string_bytes g.T.OutputText.text _ _ _ c.args.names.now
    c.args.texts.now c.index-names-0.result c.index-texts-0.result (omega (
      arith,
      some,
      c.requires.named,
    )) some c.index-names-0.is c.index-texts-0.is
    (rw c.as_str.ensures.value at c.in_default.ensures.ok) part) c.write_files.ensures.err
