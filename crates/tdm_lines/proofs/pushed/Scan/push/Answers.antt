use Rattle.std.proofs.Common.{◌+◌, arith, refl, sym, ap, subst, ◌∙◌}
use Rattle.std.proofs.lemmas.Grind.{common_steps}
use Rattle.tdm_lines.specs.Pending.{StandsFor, Scanned}
use Rattle.tdm_lines.proofs.PendingLemmas.{StandsFor-token, StandsFor-blank, StandsFor-feed}
use Rattle.tdm_lines.proofs.pushed.Scan.push.Goals as goal

pub returns-then-is_token_byte-clause-stands : goal.returns-then-is_token_byte-clause-stands
returns-then-is_token_byte-clause-stands c = λ text stands.
    let inside = c.self.inside in
    let before : Scanned = record { max = inside.max; line = inside.line; pending = inside.pending } in
    let after : Scanned = record {
      max = inside.max;
      line = inside.line;
      pending = c.with_byte-self-inside.result;
    } in
    StandsFor-token before after c.args.byte text (subst (λ (s : Scanned). StandsFor s text)
    (sym c.self.view_is) stands) refl (sym c.is_token_byte.ensures ∙ c.if-is_token_byte.true) refl
    c.with_byte-self-inside.ensures

pub returns-then-line_end-clause-stands : goal.returns-then-line_end-clause-stands
returns-then-line_end-clause-stands c = λ text stands.
    let inside = c.self-2.inside in
    let after : Scanned = record { max = inside.max; line = inside.line + 1; pending = inside.pending } in
    let ended = c.self-2.view_is ∙ c.finish-token.ensures.none_left in
    StandsFor-feed c.args.self.now after c.args.byte text stands (ap (λ (s : Scanned). s.max) ended)
    (sym c.is_token_byte.ensures ∙ c.if-is_token_byte.false) (grind (arith, common_steps))
    (ap (λ (s : Scanned). s.line + 1) ended) (ap (λ (s : Scanned). s.pending) ended)

pub returns-else-line_end-clause-stands : goal.returns-else-line_end-clause-stands
returns-else-line_end-clause-stands c = λ text stands.
    let ended = c.finish-token.ensures.none_left in
    StandsFor-blank c.args.self.now c.finish-token.new.self c.args.byte text stands
    (ap (λ (s : Scanned). s.max) ended) (sym c.is_token_byte.ensures ∙ c.if-is_token_byte.false)
    (grind (arith, common_steps)) (ap (λ (s : Scanned). s.line) ended)
    (ap (λ (s : Scanned). s.pending) ended)
