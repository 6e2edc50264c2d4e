use Rattle.std.proofs.Common.{arith, sym, ◌∙◌}
use Rattle.std.proofs.lemmas.Grind.{common_steps}
use Rattle.tdm_lines.proofs.ScanSteps.{TokenSoFar-push, TokenSoFar-end}
use Rattle.tdm_lines.proofs.scan.read_token.Goals as goal

pub loop-end-preserved : goal.loop-end-preserved
loop-end-preserved c = TokenSoFar-push _ _ _ _ _ _ c.loop-end.invariant c.loop-end-test.true
    (sym c.is_token_byte.ensures ∙ c.if-is_token_byte.true) c.extend-reading.ensures

pub returns-else-is_token_byte-clause-token : goal.returns-else-is_token_byte-clause-token
returns-else-is_token_byte-clause-token c =
    TokenSoFar-end _ _ _ _ _ c.loop-end.invariant (grind (arith, common_steps))
    (λ _. sym c.is_token_byte.ensures ∙ c.if-is_token_byte.false)

pub returns-after-loop-end-clause-token : goal.returns-after-loop-end-clause-token
returns-after-loop-end-clause-token c = TokenSoFar-end _ _ _ _ _ c.loop-end.invariant (omega arith)
    (λ lt. absurd (omega arith))
