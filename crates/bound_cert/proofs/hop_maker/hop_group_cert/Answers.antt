use Rattle.std.proofs.Common.{◌≡◌, ℕ, ◌≤◌, List, length, replicate, sym, ap, ◌∙◌, subst, arith}
use Rattle.std.specs.Prelude.{sum_by}
use Rattle.tdm_problem.specs.Limits.{most_fpgas}
use Rattle.bound_cert.specs.Limits.{most_potential_values}
use Rattle.bound_cert.specs.Certificate.{Cert}
use Rattle.bound_cert.specs.Bound.{bound_of}
use Rattle.bound_cert.proofs.FloorLaws.{hop_floor_unique}
use Rattle.bound_cert.proofs.Parts.{choices_there, potentials_within, few_values}
use Rattle.bound_cert.proofs.HopCerts.{AreHopWeights, IsHopMade, IsHopMade-from_parts, weights_small}
use Rattle.bound_cert.proofs.hop_maker.hop_group_cert.Goals as goal

made : (c : goal.After-drop-reach-2) → IsHopMade c.args.problem.now c.from_parts.result
made c =
    let board = c.args.problem.now in
    let reach = c.in_ok-reach.reach in
    let depths : c.deref.result.now ≡ reach.depths.items = c.deref.ensures.value in
    let weighted : AreHopWeights board reach.depths.items c.in_ok-weights.weights.items =
    subst (λ (hs : List ℕ). AreHopWeights board hs c.in_ok-weights.weights.items) depths
    (record { none = c.in_ok-weights.ensures.none; some = c.in_ok-weights.ensures.some }) in
    let lengths : c.in_ok-lengths.lengths.items ≡ replicate (length board.wires) 1 = c.in_ok-lengths.ensures
    ∙ ap (λ (n : ℕ). replicate n 1) c.wires.ensures.value in
    subst (IsHopMade board) (sym c.from_parts.ensures)
    (IsHopMade-from_parts board reach.depths.items c.in_ok-weights.weights.items c.in_ok-lengths.lengths.items
    reach.choices.items reach.potentials.items
    c.wires.ensures.board weighted lengths c.in_ok-reach.ensures.potentials c.in_ok-reach.ensures.choices
    c.in_ok-reach.ensures.depths)

pub from_parts-requires-clause-weights_within : goal.from_parts-requires-clause-weights_within
from_parts-requires-clause-weights_within c =
    let small = weights_small c.args.problem.now c.deref.result.now c.in_ok-weights.weights.items
    (record { none = c.in_ok-weights.ensures.none; some = c.in_ok-weights.ensures.some }) in
    λ g d there. omega (arith, small g d there)

pub from_parts-requires-clause-potentials_within : goal.from_parts-requires-clause-potentials_within
from_parts-requires-clause-potentials_within c =
    potentials_within c.args.problem.now (λ _. 1) c.in_ok-reach.reach.potentials.items
    c.in_ok-reach.ensures.potentials c.wires.ensures.board most_fpgas
    (omega arith) c.in_ok-reach.ensures.small

pub from_parts-requires-clause-choices_there : goal.from_parts-requires-clause-choices_there
from_parts-requires-clause-choices_there c =
    choices_there c.args.problem.now (λ _. 1) c.in_ok-reach.reach.potentials.items
    c.in_ok-reach.ensures.potentials c.in_ok-reach.reach.choices.items c.in_ok-reach.ensures.choices

pub returns-clause-made : goal.returns-clause-made
returns-clause-made c = (made c).made

pub returns-clause-for_problem : goal.returns-clause-for_problem
returns-clause-for_problem c = (made c).for_problem

pub returns-clause-valid : goal.returns-clause-valid
returns-clause-valid c = (made c).valid

pub returns-clause-floor : goal.returns-clause-floor
returns-clause-floor c = (made c).floor

pub returns-clause-only_floor : goal.returns-clause-only_floor
returns-clause-only_floor c floor is =
    hop_floor_unique c.args.problem.now floor (bound_of c.args.problem.now c.from_parts.result) is
    (made c).floor

pub returns-clause-few : goal.returns-clause-few
returns-clause-few c =
    let few = few_values c.args.problem.now (λ _. 1) c.in_ok-reach.reach.potentials.items
    c.in_ok-reach.ensures.potentials c.wires.ensures.board c.in_ok-reach.ensures.few in
    let potentials : c.from_parts.result.potentials ≡ c.in_ok-reach.reach.potentials.items =
    ap (λ (cert : Cert). cert.potentials) c.from_parts.ensures in
    subst (λ (ps : List (List ℕ)). sum_by length ps ≤ most_potential_values) (sym potentials) few
