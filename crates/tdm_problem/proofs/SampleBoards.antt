-- What holds of the small boards that the definitions are computed on.
use Rattle.std.proofs.Common.{◌≡◌, ◌≢◌, ℕ, zero, suc, ◌+◌, ◌*◌, ◌<◌, ◌≤◌, ◌⊎◌, List, [], ◌∷◌, None, Some, refl, subst, inl, ⊎_elim, arith}
use Rattle.std.specs.Prelude.{All, Contains, slice_get}
use Rattle.std.proofs.lemmas.List.Sums.{sum_by-cons}
use Rattle.tdm_problem.specs.declared.wire.Wire.{Wire}
use Rattle.tdm_problem.specs.Board.{Board}
use Rattle.tdm_problem.specs.Walk.{Links, IsWalk, Joins, AnyWire}
use Rattle.tdm_problem.specs.Distance.{length_of, IsHopCount}
use Rattle.tdm_problem.specs.Legal.{IsEvenRatio}
use Rattle.tdm_problem.specs.Samples.{wire, star, split}
use Rattle.tdm_problem.proofs.Walks.{either, Links-sym, Joins-from_source, IsWalk-one}

-- where no wire of the set leads out, a walk that begins inside ends inside
pub walk-stays : (board : Board) (wires inside : ℕ → Type 0) → ((e a b : ℕ) → wires e → Links board e a b
    → inside a → inside b) → (a : ℕ) (es : List ℕ) (b : ℕ) → IsWalk board wires a es b → inside a
    → inside b
walk-stays board wires inside stays a [] b walk here = subst inside walk here
walk-stays board wires inside stays a (e ∷ es) b walk here =
    walk-stays board wires inside stays walk.1.0 es b walk.1.2 (stays e a walk.1.0 walk.0 walk.1.1 here)

-- what a wire of the board links are its ends
pub link-ends : (board : Board) (e a b : ℕ) (w : Wire) → slice_get board.wires e ≡ Some w → Links board e a b
    → ((w.a ≡ a) × (w.b ≡ b)) ⊎ ((w.a ≡ b) × (w.b ≡ a))
link-ends board e a b w is links =
    let same : links.wire ≡ w = cc (links.is, is) in
    subst (λ (x : Wire). ((x.a ≡ a) × (x.b ≡ b)) ⊎ ((x.a ≡ b) × (x.b ≡ a))) same links.ends

-- a wire that isn't there links nothing
pub no-link : (board : Board) (e a b : ℕ) → slice_get board.wires e ≡ None → Links board e a b → ⊥
no-link board e a b is links = cc (links.is, is)

-- ---- the star

-- arm e of the star links the middle with FPGA e + 1
pub arm-ends : (e a b : ℕ) → Links star e a b → ((0 ≡ a) × (suc e ≡ b)) ⊎ ((0 ≡ b) × (suc e ≡ a))
arm-ends zero a b links = link-ends star 0 a b (wire 0 1) refl links
arm-ends (suc zero) a b links = link-ends star 1 a b (wire 0 2) refl links
arm-ends (suc (suc zero)) a b links = link-ends star 2 a b (wire 0 3) refl links
arm-ends (suc (suc (suc e))) a b links = absurd (no-link star (suc (suc (suc e))) a b refl links)

pub arm-links : (e b : ℕ) → e < 3 → suc e ≡ b → Links star e 0 b
arm-links zero b there is = record { wire = wire 0 1; is = refl; ends = inl (refl, is) }
arm-links (suc zero) b there is = record { wire = wire 0 2; is = refl; ends = inl (refl, is) }
arm-links (suc (suc zero)) b there is = record { wire = wire 0 3; is = refl; ends = inl (refl, is) }
arm-links (suc (suc (suc e))) b there is = absurd (omega (arith, there))

-- arms in the set join their ends
pub arms-join : (wires : ℕ → Type 0) (fpgas : List ℕ)
    → ((b : ℕ) → Contains fpgas b → (e : ℕ) × (e < 3) × (suc e ≡ b) × wires e) → Joins star wires fpgas
arms-join wires fpgas arms =
    Joins-from_source star wires 0 fpgas
    (λ b there.
    let arm = arms b there in
    (arm.0 ∷ [], IsWalk-one star wires arm.0 0 b arm.3 (arm-links arm.0 b arm.1 arm.2)))

-- an arm to each of the first two ends, other than the third arm
arm-left : (b : ℕ) → Contains (1 ∷ 2 ∷ []) b → (e : ℕ) × (e < 3) × (suc e ≡ b)
    × (Contains (0 ∷ 1 ∷ 2 ∷ []) e × (e ≢ 2))
arm-left b (zero, there, is) = (0, omega arith, is, ((0, omega arith, refl), λ same. omega (arith, same)))
arm-left b (suc zero, there, is) = (1, omega arith, is, ((1, omega arith, refl), λ same. omega (arith, same)))
arm-left b (suc (suc k), there, is) = absurd (omega (arith, there))

-- the first two ends do without the third arm
pub two-ends-joined : Joins star (λ e. Contains (0 ∷ 1 ∷ 2 ∷ []) e × (e ≢ 2)) (1 ∷ 2 ∷ [])
two-ends-joined = arms-join (λ e. Contains (0 ∷ 1 ∷ 2 ∷ []) e × (e ≢ 2)) (1 ∷ 2 ∷ []) arm-left

-- without its arm an end is alone
pub end-alone : (e : ℕ) (wires : ℕ → Type 0) → ((d : ℕ) → wires d → d ≢ e) → (es : List ℕ) (b : ℕ)
    → IsWalk star wires (suc e) es b → b ≡ suc e
end-alone e wires others es b walk =
    walk-stays star wires (λ x. x ≡ suc e) (λ d x y there links here.
    ⊎_elim
    (λ forth. absurd (omega (arith, forth.0, here)))
    (λ back. absurd (others d there (omega (arith, back.1, here))))
    (arm-ends d x y links)) (suc e) es b walk refl

-- a walk of two wires or more is as long as both
pub two-lengths : (wire_length : ℕ → ℕ) (d e : ℕ) (es : List ℕ) → wire_length d + wire_length e
    ≤ length_of wire_length (d ∷ e ∷ es)
two-lengths wire_length d e es = omega (
  arith,
  sum_by-cons wire_length d (e ∷ es),
  sum_by-cons wire_length e es,
)

-- from the first end to another end go two arms or more
pub two-hops : (e : ℕ) → 0 < e → (es : List ℕ) → IsWalk star (AnyWire star) 1 es (suc e)
    → 2 ≤ length_of (λ d. 1) es
two-hops e other [] walk = absurd (omega (arith, other, walk))
two-hops e other (d ∷ []) walk =
    ⊎_elim
    (λ forth. absurd (omega (arith, forth.0)))
    (λ back. absurd (omega (arith, back.0, walk.1.2)))
    (arm-ends d 1 walk.1.0 walk.1.1)
two-hops e other (c ∷ d ∷ es) walk = two-lengths (λ d. 1) c d es

-- an end is two hops from the first end
pub end-hops : (e : ℕ) → 0 < e → e < 3 → IsHopCount star 1 (suc e) 2
end-hops e other there = record {
  walk = (
    0 ∷ e ∷ [],
    (
      omega arith,
      (
        0,
        Links-sym star 0 0 1 (arm-links 0 1 (omega arith) refl),
        (there, (suc e, arm-links e (suc e) there refl, refl)),
      ),
    ),
    refl,
  );
  least = two-hops e other;
}

-- ---- the board in two parts

-- the wires of the first part keep below 2
pub part-kept : (e a b : ℕ) → Links split e a b → a < 2 → b < 2
part-kept zero a b links here =
    ⊎_elim (λ forth. omega (arith, forth.1)) (λ back. omega (arith, back.0))
    (link-ends split 0 a b (wire 0 1) refl links)
part-kept (suc zero) a b links here =
    ⊎_elim (λ forth. absurd (omega (arith, forth.0, here))) (λ back. absurd (omega (arith, back.1, here)))
    (link-ends split 1 a b (wire 2 3) refl links)
part-kept (suc (suc e)) a b links here = absurd (no-link split (suc (suc e)) a b refl links)

-- ---- two FPGAs

-- one wire between two FPGAs joins them
pub pair-joined : (board : Board) (wires : ℕ → Type 0) (e : ℕ) → wires e → Links board e 0 1
    → Joins board wires (0 ∷ 1 ∷ [])
pair-joined board wires e there links =
    Joins-from_source board wires 0 (0 ∷ 1 ∷ [])
    (λ b fpga.
    ⊎_elim
    (λ first. ([], first))
    (λ second. (e ∷ [], (there, (1, links, second))))
    (either 0 1 b fpga))

-- ---- ratios

-- a row of one ratio that is twice a positive number
pub one-even : (ratio half : ℕ) → 0 < half → ratio ≡ 2 * half → All IsEvenRatio (ratio ∷ [])
one-even ratio half positive is zero d there = (half, positive, is)
one-even ratio half positive is (suc k) d there = absurd (omega (arith, there))
