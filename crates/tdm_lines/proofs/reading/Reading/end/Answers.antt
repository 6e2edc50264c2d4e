use Rattle.std.proofs.Common.{◌≡◌, ℕ, ◌+◌, ◌==◌, ◌++◌, [], ◌∷◌, Bool, true, false, cond, None, ap, sym, ◌∙◌, subst, arith}
use Rattle.std.proofs.lemmas.Grind.{common_steps}
use Rattle.tdm_lines.specs.Lines.{put_line}
use Rattle.tdm_lines.specs.Pending.{Scanned, StandsFor, unfinished}
use Rattle.tdm_lines.specs.SoFar.{Keeps, token_there}
use Rattle.tdm_lines.proofs.KeepsLemmas.{stands-blank, stands-feed, not-false, not-true}
use Rattle.tdm_lines.proofs.reading.Reading.end.Goals as goal

pub returns-then-not-step-clause-stands : goal.returns-then-not-step-clause-stands
returns-then-not-step-clause-stands g c = λ text most stands.
    let now = c.args.self.now in
    let pushed = c.push-step.ensures in
    let next = c.token.new.self in
    let scan = c.in_ok-token.ensures.scan in
    let feed : (c.args.byte == 10) ≡ false = sym pushed.line_end ∙ not-false _ c.if-not-step.true in
    let line : c.push-step.new.self.line ≡ now.scan.line = pushed.line ∙ grind (arith, common_steps, feed) in
    let token = pushed.token ∙ ap (λ (b : Bool). cond b None now.scan.pending) c.requires.dark
    ∙ stands.scanned.pending in
    stands-blank now.scan next.scan c.args.byte now.fed next.fed now.fault next.fault now.count next.count
    now.grammar next.grammar text c.requires.dark feed c.in_ok-token.ensures.fed
    (ap (λ (s : Scanned). s.max) scan ∙ pushed.max) (ap (λ (s : Scanned). s.line) scan ∙ line)
    (λ t s. subst (λ (x : Scanned). StandsFor x (t ++ c.args.byte ∷ [])) (sym scan) (pushed.stands t s))
    (λ done toks keeps. c.in_ok-token.ensures.keeps now.scan.max done toks (unfinished text) token keeps)
    stands

pub returns-clause-stands : goal.returns-clause-stands
returns-clause-stands g c = λ text most stands.
    let now = c.args.self.now in
    let pushed = c.push-step.ensures in
    let middle = c.token.new.self in
    let next = c.line_end.new.self in
    let scan = c.in_ok-line_end.ensures.scan ∙ c.in_ok-token.ensures.scan in
    let feed : (c.args.byte == 10) ≡ true = sym pushed.line_end ∙ not-true _ c.if-not-step.false in
    let line : c.push-step.new.self.line ≡ now.scan.line + 1 = pushed.line
    ∙ ap (λ (b : Bool). now.scan.line + cond b 1 0) feed in
    let token = pushed.token ∙ ap (λ (b : Bool). cond b None now.scan.pending) c.requires.dark
    ∙ stands.scanned.pending in
    stands-feed now.scan next.scan c.args.byte now.fed next.fed now.fault next.fault now.count next.count
    now.grammar next.grammar text feed (c.in_ok-line_end.ensures.fed ∙ c.in_ok-token.ensures.fed)
    (ap (λ (s : Scanned). s.max) scan ∙ pushed.max) (ap (λ (s : Scanned). s.line) scan ∙ line)
    (λ t s. subst (λ (x : Scanned). StandsFor x (t ++ c.args.byte ∷ [])) (sym scan) (pushed.stands t s))
    (λ done toks keeps.
    let ended = c.in_ok-line_end.ensures.keeps now.scan.max done (toks ++ token_there (unfinished text)) most
    (c.in_ok-token.ensures.keeps now.scan.max done toks (unfinished text) token keeps) in
    subst (λ (n : ℕ). Keeps g.G.Grammar.reads g.G.Grammar.holds now.scan.max next.fault next.count
    next.grammar (done ++ put_line now.scan.max n (toks ++ token_there (unfinished text)) []) [])
    c.line-line.ensures ended) stands
