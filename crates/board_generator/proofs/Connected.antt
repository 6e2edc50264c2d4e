-- The ring of the FPGAs joins all nets.
use Rattle.std.proofs.Common.{◌≡◌, ℕ, zero, suc, ◌+◌, ◌/◌, ◌<◌, List, [], ◌∷◌, ◌++◌, length, map, get_or, refl, ap, ◌∙◌, subst, arith, zero-add, length-append}
use Rattle.std.specs.Prelude.{Some, slice_get, All}
use Rattle.std.specs.List.{range_with_len}
use Rattle.std.proofs.Math.ListN.{get_or-append}
use Rattle.std.proofs.Math.Nat.{mod-eq_of_lt}
use Rattle.std.proofs.lemmas.List.Elements.{All-contains}
use Rattle.std.proofs.lemmas.List.FromFn.{length-map-range_with_len, get_or-map-range_with_len}
use Rattle.std.proofs.lemmas.Option.{slice_get-get_or}
use Rattle.tdm_problem.specs.declared.wire.Wire.{Wire}
use Rattle.tdm_problem.specs.Board.{IsBoard}
use Rattle.tdm_problem.specs.Walk.{Links, AnyWire, IsWalk}
use Rattle.tdm_problem.specs.Legal.{terminals_of, AllConnectable}
use Rattle.tdm_problem.proofs.Walks.{AnyWire-from_links, IsWalk-append, IsWalk-one, Joins-from_source, Links-ends}
use Rattle.board_generator.specs.Generated.{wire_over, generated}

module _ (f n g : ℕ) where
  -- wire i of the ring
  ring_wire : (i : ℕ) → i + 1 < f → Links (generated f n g) i i (i + 1)
  ring_wire i before =
      let ring : List Wire = map (wire_over f 1) (range_with_len 0 f) in
      let others : List Wire = map (wire_over f (f / 2)) (range_with_len 0 f) in
      let wire : Wire = wire_over f 1 i in
      let count : length ring ≡ f = length-map-range_with_len (wire_over f 1) 0 f in
      let there : i < length ring = omega (arith, count, before) in
      let is : get_or (ring ++ others) i wire ≡ wire = get_or-append ring others wire i there
      ∙ get_or-map-range_with_len (wire_over f 1) 0 f i i wire (omega (arith, before)) (zero-add i) in
      let found : slice_get (ring ++ others) i ≡ Some wire =
      slice_get-get_or (ring ++ others) i wire (omega (arith, there, length-append ring others))
      ∙ ap Some is in
      subst (λ b. Links (generated f n g) i i b) (mod-eq_of_lt before)
      (Links-ends (generated f n g) i wire found)

  -- along the ring from FPGA 0
  around : (a : ℕ) → a < f → (es : List ℕ) × IsWalk (generated f n g) (AnyWire (generated f n g)) 0 es a
  around zero there = ([], refl)
  around (suc a) there =
      let walk = around a (omega (arith, there)) in
      let next : a + 1 ≡ suc a = omega arith in
      let link : Links (generated f n g) a a (suc a) =
      subst (λ b. Links (generated f n g) a a b) next (ring_wire a (omega (arith, there))) in
      let last = IsWalk-one (generated f n g) (AnyWire (generated f n g)) a a (suc a)
      (AnyWire-from_links (generated f n g) a a (suc a) link) link in (
        walk.0 ++ a ∷ [],
        IsWalk-append (generated f n g) (AnyWire (generated f n g)) 0 walk.0 a (a ∷ [])
            (suc a) walk.1 last,
      )

  pub all_joined : IsBoard (generated f n g) → AllConnectable (generated f n g)
  all_joined is k there =
      let fpgas : List ℕ = terminals_of (generated f n g) k in
      let below : All (λ x. x < f) fpgas = (is.nets k [] there).below in
      Joins-from_source (generated f n g) (AnyWire (generated f n g)) 0 fpgas
      (λ b held. around b (All-contains (λ x. x < f) fpgas b below held))
