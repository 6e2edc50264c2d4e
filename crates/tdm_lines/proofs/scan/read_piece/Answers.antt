use Rattle.tdm_lines.proofs.PieceSteps.{PieceSoFar-push}
use Rattle.tdm_lines.proofs.scan.read_piece.Goals as goal

pub loop-place-preserved : goal.loop-place-preserved
loop-place-preserved c =
    let token = c.read_token-token.ensures in
    let skipped = c.skip_blanks-place-in-loop-place.ensures in
    PieceSoFar-push _ _ _ _ _ _ _ c.loop-place.invariant _ _ _ _ _ _ token.token token.reading token.from
    skipped.from skipped.within skipped.stops skipped.same c.in_ok-fault.ensures.added
