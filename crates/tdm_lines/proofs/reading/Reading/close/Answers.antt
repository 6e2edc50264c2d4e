use Rattle.std.proofs.Common.{◌≡◌, ℕ, ◌++◌, List, [], ap, sym, ◌∙◌, subst}
use Rattle.tdm_lines.specs.Lines.{Line, put_line, lines}
use Rattle.tdm_lines.specs.Pending.{unfinished}
use Rattle.tdm_lines.specs.SoFar.{token_there}
use Rattle.tdm_lines.proofs.SoFarLemmas.{so_far-end}
use Rattle.tdm_lines.proofs.reading.Reading.close.Goals as goal

pub returns-clause-read : goal.returns-clause-read
returns-clause-read g c = λ text most stands.
    let now = c.args.self in
    let toks : List (List ℕ) = stands.toks ++ token_there (unfinished text) in
    let token = c.finish-token.ensures.token ∙ stands.scanned.pending in
    let ended = c.in_ok-line_end.ensures.keeps now.scan.max stands.done toks most
    (c.in_ok-token.ensures.keeps now.scan.max stands.done stands.toks (unfinished text) token
    stands.keeps) in
    let whole : stands.done ++ put_line now.scan.max c.line-line.result toks [] ≡ lines now.scan.max text =
    ap (λ (n : ℕ). stands.done ++ put_line now.scan.max n toks []) c.line-line.ensures
    ∙ sym (so_far-end now.scan.max now.scan.line text stands.done stands.toks stands.so_far) in
    subst (λ (ls : List Line). g.G.Grammar.reads c.line_end.new.self.grammar ls) whole ended.read
