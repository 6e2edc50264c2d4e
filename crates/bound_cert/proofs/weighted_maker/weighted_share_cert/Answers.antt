use Rattle.std.proofs.Common.{rules, ◌≡◌, ℕ, false, ◌<◌, List, get_or, sym, ap, ◌∙◌, subst, arith}
use Rattle.std.specs.Prelude.{All}
use Rattle.board_graph.specs.Graph.{Graph}
use Rattle.bound_cert.specs.declared.certificate.CertKind.TheVariants.{Share}
use Rattle.bound_cert.specs.Certificate.{Cert}
use Rattle.bound_cert.specs.Limits.{most_potential_value}
use Rattle.bound_cert.specs.Makers.{AreSourcePotentials}
use Rattle.bound_cert.specs.Sources.{sources_of}
use Rattle.bound_cert.proofs.Parts.{choices_there, potentials_within}
use Rattle.bound_cert.proofs.SourceLaws.{sources_below}
use Rattle.bound_cert.proofs.WeightedCerts.{IsWeightedMade, IsWeightedMade-from_parts, potentials_few, source_potentials}
use Rattle.bound_cert.proofs.weighted_maker.weighted_share_cert.Goals as goal

pub length_potentials-requires-clause-there : goal.length_potentials-requires-clause-there
length_potentials-requires-clause-there c =
    let fpgas : c.args.graph.now.fpgas ≡ c.args.problem.now.fpgas =
    ap (λ (g : Graph). g.fpgas) c.requires.graph in
    subst (λ (rs : List ℕ). All (λ source. source < c.args.graph.now.fpgas) rs)
    (sym (c.as_slice.ensures.keys ∙ c.in_ok-sources.ensures.fpgas))
    (subst (λ (n : ℕ). All (λ source. source < n) (sources_of c.args.problem.now)) (sym fpgas)
    (sources_below c.args.problem.now c.in_ok-sources.ensures.board))

abbrev wire_length : List ℕ → ℕ → ℕ
wire_length lengths e = get_or lengths e 0

are : (c : goal.In_ok-to_vec-2)
    → AreSourcePotentials c.args.problem.now (wire_length c.args.lengths.now)
    c.in_ok-potentials.potentials.items
are c =
    source_potentials c.args.problem.now (wire_length c.args.lengths.now) c.as_slice.result.now
    c.in_ok-potentials.potentials.items
    (c.as_slice.ensures.keys ∙ c.in_ok-sources.ensures.fpgas)
    (c.in_ok-potentials.ensures.least c.args.problem.now c.requires.graph)

pub from_parts-requires-clause-few_potentials : goal.from_parts-requires-clause-few_potentials
from_parts-requires-clause-few_potentials c =
    potentials_few c.args.problem.now (wire_length c.args.lengths.now) c.in_ok-potentials.potentials.items
    c.in_ok-sources.ensures.board (are c)

pub from_parts-requires-clause-potentials_within : goal.from_parts-requires-clause-potentials_within
from_parts-requires-clause-potentials_within c =
    potentials_within c.args.problem.now (wire_length c.args.lengths.now) c.in_ok-potentials.potentials.items
    (are c) c.in_ok-sources.ensures.board most_potential_value
    (omega arith) c.in_ok-potentials.ensures.within

pub from_parts-requires-clause-choices_there : goal.from_parts-requires-clause-choices_there
from_parts-requires-clause-choices_there c =
    choices_there c.args.problem.now (wire_length c.args.lengths.now) c.in_ok-potentials.potentials.items
    (are c) c.in_ok-sources.sources.choices.items c.in_ok-sources.ensures.choices

made : (c : goal.After-drop-sources-5)
    → IsWeightedMade c.args.problem.now c.args.weights.now c.args.lengths.now c.from_parts.result
made c =
    let board = c.args.problem.now in
    let potentials : List (List ℕ) = c.in_ok-potentials.potentials.items in
    let choices : List ℕ = c.in_ok-sources.sources.choices.items in
    let weights : c.in_ok-to_vec.field-0.items ≡ c.args.weights.now =
    c.in_ok-to_vec.ensures.items_if_clones_equal (search rules) in
    let lengths : c.in_ok-to_vec-2.field-0.items ≡ c.args.lengths.now =
    c.in_ok-to_vec-2.ensures.items_if_clones_equal (search rules) in
    let cert_of : List ℕ → List ℕ → Cert = λ ws ls. record {
      kind = Share;
      grows = false;
      weights = ws;
      lengths = ls;
      potentials = potentials;
      choices = choices;
    } in
    let from_sources : AreSourcePotentials board (wire_length c.args.lengths.now) potentials =
    source_potentials board (wire_length c.args.lengths.now) c.as_slice.result.now potentials
    (c.as_slice.ensures.keys ∙ c.in_ok-sources.ensures.fpgas)
    (c.in_ok-potentials.ensures.least board c.requires.graph) in
    let cert : c.from_parts.result ≡ cert_of c.args.weights.now c.args.lengths.now =
    c.from_parts.ensures ∙ ap (λ (ws : List ℕ). cert_of ws c.in_ok-to_vec-2.field-0.items) weights
    ∙ ap (cert_of c.args.weights.now) lengths in
    subst (IsWeightedMade board c.args.weights.now c.args.lengths.now) (sym cert)
    (IsWeightedMade-from_parts board c.args.weights.now c.args.lengths.now choices potentials
    c.in_ok-sources.ensures.board c.requires.weights_count c.requires.lengths_count
    from_sources c.in_ok-sources.ensures.choices
    (potentials_few board (wire_length c.args.lengths.now) potentials
    c.in_ok-sources.ensures.board from_sources))

pub returns-clause-made : goal.returns-clause-made
returns-clause-made c = (made c).made

pub returns-clause-for_problem : goal.returns-clause-for_problem
returns-clause-for_problem c = (made c).for_problem

pub returns-clause-valid : goal.returns-clause-valid
returns-clause-valid c = (made c).valid

pub returns-clause-bound : goal.returns-clause-bound
returns-clause-bound c = (made c).bound c.requires.connectable

pub returns-clause-only_bound : goal.returns-clause-only_bound
returns-clause-only_bound c = (made c).only_bound

pub returns-clause-few : goal.returns-clause-few
returns-clause-few c = (made c).few
