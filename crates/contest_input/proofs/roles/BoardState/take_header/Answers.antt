use Rattle.std.proofs.Common.{List, ℕ, ap, sym, ◌∙◌}
use Rattle.tdm_problem.specs.Board.{Board}
use Rattle.tdm_lines.specs.Written.{plain_line}
use Rattle.contest_input.specs.declared.header.Sizes.{Sizes}
use Rattle.contest_input.specs.Faults.{sizes_of}
use Rattle.contest_input.specs.BoardText.{refused_at, unless}
use Rattle.contest_input.specs.Roles.{in_wires}
use Rattle.contest_input.proofs.WholeText.{by_sections, bare}
use Rattle.contest_input.proofs.roles.BoardState.take_header.Goals as goal

pub returns-clause-said : goal.returns-clause-said
returns-clause-said c = λ n end more.
    let numbers : List ℕ = c.args.self.now.numbers.items in
    let sizes : Sizes = c.sizes_of-sizes.result in
    by_sections end (plain_line n numbers) more
    ∙ ap (λ k. unless (refused_at n k) (in_wires (sizes_of numbers) (bare (sizes_of numbers).fpgas)
    (sizes_of numbers).wires end more)) c.requires
    ∙ ap (λ (s : Sizes). in_wires s (bare s.fpgas) s.wires end more) (sym (c.sizes_of-sizes.ensures.sizes
    ∙ ap sizes_of c.deref.ensures.value))
    ∙ ap (λ (b : Board). in_wires sizes b sizes.wires end more) (sym c.new.ensures.empty)
    ∙ sym (c.begin_wires.ensures.said end more)
