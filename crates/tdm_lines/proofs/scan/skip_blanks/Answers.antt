use Rattle.std.proofs.Common.{arith, sym, ◌∙◌}
use Rattle.tdm_lines.proofs.TextLemmas.{SameAhead-skip}
use Rattle.tdm_lines.proofs.scan.skip_blanks.Goals as goal

pub loop-place-preserved : goal.loop-place-preserved
loop-place-preserved c = (
  omega arith,
  omega arith,
  SameAhead-skip _ _ _ c.loop-place-test.true (sym c.is_blank.ensures
      ∙ c.if-is_blank.true) c.loop-place.invariant.2,
)
