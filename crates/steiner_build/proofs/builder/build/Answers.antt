use Rattle.std.proofs.Common.{ℕ, List, ◌<◌, sym, ap, ◌∙◌, subst, length, slice_index}
use Rattle.std.specs.Prelude.{All}
use Rattle.std.proofs.lemmas.List.Elements.{Contains-get_or}
use Rattle.tdm_problem.specs.Walk.{IsMinimalTree}
use Rattle.tdm_problem.specs.Distance.{length_of}
use Rattle.board_graph.specs.Graph.{Graph, board_of}
use Rattle.steiner_build.specs.Building.{IsWithinWalks, IsWithinJoining}
use Rattle.steiner_build.proofs.LengthLaws.{IsWithinDistances-from_walks, IsWithinJoining-from_first}
use Rattle.steiner_build.proofs.BuildLaws.{connectable-tree}
use Rattle.steiner_build.proofs.builder.build.Goals as goal

pub grow-requires-clause-start : goal.grow-requires-clause-start
grow-requires-clause-start g c = Contains-get_or c.args.terminals.now 0 0 c.requires.some

pub grow-requires-clause-lawful : goal.grow-requires-clause-lawful
grow-requires-clause-lawful g c = λ goals others. tt

pub returns-in-Some-clause-minimal : goal.returns-in-Some-clause-minimal
returns-in-Some-clause-minimal g c = λ board same.
    let minimal = rw c.in-Some.is at c.in_ok-grow.ensures.minimal in
    subst (λ (wires : List ℕ). IsMinimalTree board wires c.args.terminals.now) (sym c.into_wires.ensures)
    (minimal board same)

pub returns-in-Some-clause-short : goal.returns-in-Some-clause-short
returns-in-Some-clause-short g c =
    let board = board_of c.args.graph.now in
    let l = g.Q.Lengths.length c.args.lengths.now in
    let first = slice_index c.args.terminals.now 0 in
    let within = rw c.in-Some.is at c.in_ok-grow.ensures.short in
    let long = rw c.in-Some.is at c.in_ok-grow.ensures.total in
    let P : ℕ → Type 0 = λ n. IsWithinWalks board l first c.args.terminals.now n in
    IsWithinDistances-from_walks board l first c.args.terminals.now (length_of l c.into_wires.result.items)
    (subst P (long ∙ ap (length_of l) (sym c.into_wires.ensures)) within)

pub returns-in-Some-clause-pair : goal.returns-in-Some-clause-pair
returns-in-Some-clause-pair g c = λ a b same.
    let board = board_of c.args.graph.now in
    let l = g.Q.Lengths.length c.args.lengths.now in
    let within = rw c.in-Some.is at c.in_ok-grow.ensures.short in
    let long = rw c.in-Some.is at c.in_ok-grow.ensures.total in
    let P : ℕ → Type 0 = λ n. IsWithinWalks board l (slice_index c.args.terminals.now 0) c.args.terminals.now
    n in
    let R : List ℕ → Type 0 = λ ts. IsWithinWalks board l (slice_index ts 0) ts
    (length_of l c.into_wires.result.items) in
    let S : List ℕ → Type 0 = λ ts. IsWithinJoining board l ts (length_of l c.into_wires.result.items) in
    subst S (sym same) (IsWithinJoining-from_first board l a b (length_of l c.into_wires.result.items)
    (subst R same (subst P (long ∙ ap (length_of l) (sym c.into_wires.ensures)) within)))

pub returns-in-Some-clause-connectable : goal.returns-in-Some-clause-connectable
returns-in-Some-clause-connectable g c = λ board same.
    let minimal = rw c.in-Some.is at c.in_ok-grow.ensures.minimal in
    let inside = rw c.in-Some.is at c.in_ok-grow.ensures.inside in
    let P : Graph → Type 0 = λ graph. All (λ (e : ℕ). e < length graph.wires) c.grow.new.self.wires in
    connectable-tree board c.grow.new.self.wires c.args.terminals.now (subst P same inside)
    (minimal board same)
