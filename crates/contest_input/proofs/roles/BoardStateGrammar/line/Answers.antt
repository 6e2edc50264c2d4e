use Rattle.std.proofs.Common.{ℕ, ◌∷◌, [], Err, ap, sym, ◌∙◌, append_assoc}
use Rattle.tdm_lines.specs.Lines.{Line}
use Rattle.tdm_lines.specs.SoFar.{ended_line}
use Rattle.contest_input.specs.BoardText.{board_of_lines}
use Rattle.contest_input.proofs.RoleSteps.{said-refused, clean-plain, taken-line, number-is}
use Rattle.contest_input.proofs.KeptNumbers.{judged}
use Rattle.contest_input.proofs.roles.BoardStateGrammar.line.Goals as goal

pub returns-in-Some-clause-reads : goal.returns-in-Some-clause-reads
returns-in-Some-clause-reads c = λ done numbers reads some known end more.
    let g = c.args.self.now in
    let line : Line = ended_line c.args.line c.args.fault numbers in
    ap (board_of_lines end) (append_assoc done (line ∷ []) more) ∙ reads end (line ∷ more)
    ∙ said-refused g.role g.sizes g.draft g.left g.listed end line more c.in-Some.kind c.requires.fits
    (sym (judged g.sizes g.listed c.args.line g.role c.args.fault g.numbers.items numbers
    (λ none. (known none).1)) ∙ sym (c.line_fault.ensures c.args.line) ∙ c.in-Some.is)
    ∙ ap (λ (n : ℕ). Err (record { kind = c.in-Some.kind; line = n }))
    (number-is c.args.line c.args.fault numbers)

pub take-requires-clause-clean : goal.take-requires-clause-clean
take-requires-clause-clean c =
    let g = c.args.self.now in
    clean-plain g.role g.sizes g.listed 0 0 c.args.fault g.numbers.items (sym (c.line_fault.ensures 0)
    ∙ c.in_default.is)

pub returns-clause-reads : goal.returns-clause-reads
returns-clause-reads c = λ done numbers reads some known end more.
    let g = c.args.self.now in
    let h = c.take.new.self in
    let line : Line = ended_line c.args.line c.args.fault numbers in
    ap (board_of_lines end) (append_assoc done (line ∷ []) more) ∙ reads end (line ∷ more)
    ∙ taken-line g.role g.sizes g.draft g.left g.listed h.role h.sizes h.draft h.left h.listed c.args.line
    c.args.fault g.numbers.items numbers c.args._count some (λ none. ((known none).0, (known none).1))
    (sym (c.line_fault.ensures c.args.line) ∙ c.in_default.is) c.in_ok-take.ensures.stays
    c.in_ok-take.ensures.said end more
