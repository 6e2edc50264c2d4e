use Rattle.std.proofs.Common.{◌≡◌, ℕ, List, replicate, sym, ap, ◌∙◌, subst, arith}
use Rattle.std.specs.Vec.{with_items}
use Rattle.std.proofs.lemmas.List.{with_items_is}
use Rattle.bound_cert.specs.Limits.{uniform_weight}
use Rattle.bound_cert.specs.Floors.{uniform_length}
use Rattle.bound_cert.specs.Scaling.{AreScaled}
use Rattle.bound_cert.specs.Bound.{bound_of}
use Rattle.bound_cert.proofs.FloorLaws.{share_floor_unique}
use Rattle.bound_cert.proofs.ShareCerts.{AreShareParts, IsShareMade, IsShareMade-from_parts, share_lengths_within, share_potentials_within, share_choices_there}
use Rattle.bound_cert.proofs.share_maker.uniform_share_cert.Goals as goal

parts : (c : goal.In_ok-lengths)
    → AreShareParts c.args.problem.now c.in_ok-wire_length.wire_length c.in_ok-reach.reach.depths.items
    c.in_ok-weights.weights.items c.in_ok-lengths.lengths.items c.in_ok-reach.reach.choices.items
    c.in_ok-reach.reach.potentials.items
    (with_items c.in_ok-reach.reach.potentials c.scale_all.new.potentials).items
parts c =
    let reach = c.in_ok-reach.reach in
    let unit : ℕ = c.in_ok-wire_length.wire_length in
    let depths : c.deref.result.now ≡ reach.depths.items = c.deref.ensures.value in
    let old : c.deref_mut.result.now ≡ reach.potentials.items = c.deref_mut.ensures.value in
    let new : (with_items reach.potentials c.scale_all.new.potentials).items ≡ c.scale_all.new.potentials =
    with_items_is reach.potentials c.scale_all.new.potentials (omega (
      arith,
      c.scale_all.ensures.count,
      c.deref_mut.ensures.len,
    )) in
    record {
      is_board = c.groups.ensures.board;
      unit_is = c.in_ok-wire_length.ensures.value
          ∙ ap (λ (hs : List ℕ). uniform_length c.args.problem.now hs) depths;
      unit_short = c.in_ok-wire_length.ensures.within;
      weights_are = c.in_ok-weights.ensures
          ∙ ap (λ (n : ℕ). replicate n uniform_weight) c.groups.ensures.value;
      lengths_are = c.in_ok-lengths.ensures ∙ ap (λ (n : ℕ). replicate n unit) c.wires.ensures.value;
      from_hops = c.in_ok-reach.ensures.potentials;
      few = c.in_ok-reach.ensures.few;
      small = c.in_ok-reach.ensures.small;
      scaled = subst (λ (ps : List (List ℕ)). AreScaled unit reach.potentials.items ps) (sym new)
          (subst (λ (ps : List (List ℕ)). AreScaled unit ps c.scale_all.new.potentials) old
          c.scale_all.ensures);
      chosen = c.in_ok-reach.ensures.choices;
      are_depths = c.in_ok-reach.ensures.depths;
    }

pub from_parts-requires-clause-lengths_within : goal.from_parts-requires-clause-lengths_within
from_parts-requires-clause-lengths_within c = share_lengths_within _ _ _ _ _ _ _ _ (parts c)

pub from_parts-requires-clause-potentials_within : goal.from_parts-requires-clause-potentials_within
from_parts-requires-clause-potentials_within c = share_potentials_within _ _ _ _ _ _ _ _ (parts c)

pub from_parts-requires-clause-choices_there : goal.from_parts-requires-clause-choices_there
from_parts-requires-clause-choices_there c = share_choices_there _ _ _ _ _ _ _ _ (parts c)

parts_at_end : (c : goal.After-drop-reach-2)
    → AreShareParts c.args.problem.now c.in_ok-wire_length.wire_length c.in_ok-reach.reach.depths.items
    c.in_ok-weights.weights.items c.in_ok-lengths.lengths.items c.in_ok-reach.reach.choices.items
    c.in_ok-reach.reach.potentials.items
    (with_items c.in_ok-reach.reach.potentials c.scale_all.new.potentials).items
parts_at_end c =
    let reach = c.in_ok-reach.reach in
    let unit : ℕ = c.in_ok-wire_length.wire_length in
    let depths : c.deref.result.now ≡ reach.depths.items = c.deref.ensures.value in
    let old : c.deref_mut.result.now ≡ reach.potentials.items = c.deref_mut.ensures.value in
    let new : (with_items reach.potentials c.scale_all.new.potentials).items ≡ c.scale_all.new.potentials =
    with_items_is reach.potentials c.scale_all.new.potentials (omega (
      arith,
      c.scale_all.ensures.count,
      c.deref_mut.ensures.len,
    )) in
    record {
      is_board = c.groups.ensures.board;
      unit_is = c.in_ok-wire_length.ensures.value
          ∙ ap (λ (hs : List ℕ). uniform_length c.args.problem.now hs) depths;
      unit_short = c.in_ok-wire_length.ensures.within;
      weights_are = c.in_ok-weights.ensures
          ∙ ap (λ (n : ℕ). replicate n uniform_weight) c.groups.ensures.value;
      lengths_are = c.in_ok-lengths.ensures ∙ ap (λ (n : ℕ). replicate n unit) c.wires.ensures.value;
      from_hops = c.in_ok-reach.ensures.potentials;
      few = c.in_ok-reach.ensures.few;
      small = c.in_ok-reach.ensures.small;
      scaled = subst (λ (ps : List (List ℕ)). AreScaled unit reach.potentials.items ps) (sym new)
          (subst (λ (ps : List (List ℕ)). AreScaled unit ps c.scale_all.new.potentials) old
          c.scale_all.ensures);
      chosen = c.in_ok-reach.ensures.choices;
      are_depths = c.in_ok-reach.ensures.depths;
    }

made : (c : goal.After-drop-reach-2) → IsShareMade c.args.problem.now c.from_parts.result
made c = subst (IsShareMade c.args.problem.now) (sym c.from_parts.ensures)
    (IsShareMade-from_parts _ _ _ _ _ _ _ _ (parts_at_end c))

pub returns-clause-made : goal.returns-clause-made
returns-clause-made c = (made c).made

pub returns-clause-for_problem : goal.returns-clause-for_problem
returns-clause-for_problem c = (made c).for_problem

pub returns-clause-valid : goal.returns-clause-valid
returns-clause-valid c = (made c).valid

pub returns-clause-floor : goal.returns-clause-floor
returns-clause-floor c = (made c).floor

pub returns-clause-only_floor : goal.returns-clause-only_floor
returns-clause-only_floor c floor is =
    share_floor_unique c.args.problem.now floor (bound_of c.args.problem.now c.from_parts.result) is
    (made c).floor

pub returns-clause-few : goal.returns-clause-few
returns-clause-few c = (made c).few
