use Rattle.std.proofs.Common.{ℕ, List, ◌∷◌, [], ◌++◌, ap, ◌∙◌, append_assoc}
use Rattle.tdm_lines.specs.Lines.{Line}
use Rattle.tdm_lines.specs.SoFar.{ended_line}
use Rattle.solution_text.specs.Reading.{nets_from}
use Rattle.solution_text.proofs.RoleLaws.{first-three}
use Rattle.solution_text.proofs.state.SolutionStateGrammar.line.Goals as goal

pub returns-clause-reads : goal.returns-clause-reads
returns-clause-reads c = λ done numbers reads some known after more.
    let now = c.args.self.now in
    let next = c.take.new.self in
    let line : Line = ended_line c.args.line c.args.fault numbers in
    ap (λ (w : ℕ). nets_from w after next.nets ((done ++ line ∷ []) ++ more)) c.take.ensures.wires
    ∙ ap (λ (n : ℕ). nets_from now.wires after n ((done ++ line ∷ []) ++ more)) c.take.ensures.nets
    ∙ ap (λ (ls : List Line). nets_from now.wires after now.nets ls) (append_assoc done (line ∷ []) more)
    ∙ reads after (line ∷ more)
    ∙ c.in_ok-take.ensures.said numbers after more
    (λ none. first-three now.numbers numbers c.requires.most c.requires.largest (known none).1
    (known none).2)
