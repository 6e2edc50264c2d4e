use Rattle.std.proofs.Common.{◌≡◌, ◌≢◌, ℕ, zero, suc, ◌<◌, ◌⊎◌, List, [], ◌∷◌, ◌++◌, Some, length, refl, sym, ◌∙◌, subst, inl, inr, ⊎_elim, arith}
use Rattle.std.specs.Prelude.{All, Contains, reverse, slice_get}
use Rattle.std.proofs.lemmas.List.{reverse-append}
use Rattle.std.proofs.lemmas.List.Elements.{All-head, All-tail}
use Rattle.tdm_problem.specs.declared.wire.Wire.{Wire}
use Rattle.tdm_problem.specs.Board.{Board, IsBoard, IsWireOf}
use Rattle.tdm_problem.specs.Walk.{Links, IsWalk, Joins, AnyWire, IsMinimalTree}

-- a wire leads both ways
pub Links-sym : (board : Board) (e a b : ℕ) → Links board e a b → Links board e b a
Links-sym board e a b links = record {
  wire = links.wire;
  is = links.is;
  ends = ⊎_elim (λ forth. inr forth) (λ back. inl back) links.ends;
}

-- what a place in a list gives is there
there-from_get : {X : Type 0} (xs : List X) (i : ℕ) (x : X) → slice_get xs i ≡ Some x → i < length xs
there-from_get [] i x is = absurd (cc is)
there-from_get (y ∷ xs) zero x is = omega arith
there-from_get (y ∷ xs) (suc i) x is = omega (arith, there-from_get xs i x is)

-- a wire that links two FPGAs is a wire of the board
pub AnyWire-from_links : (board : Board) (e a b : ℕ) → Links board e a b → AnyWire board e
AnyWire-from_links board e a b links = there-from_get board.wires e links.wire links.is

-- every walk is a walk in a larger set
pub IsWalk-wider : (board : Board) (some more : ℕ → Type 0) → ((e : ℕ) → some e → more e)
    → (a : ℕ) (es : List ℕ) (b : ℕ) → IsWalk board some a es b → IsWalk board more a es b
IsWalk-wider board some more wider a [] b walk = walk
IsWalk-wider board some more wider a (e ∷ es) b walk =
    (wider e walk.0, (walk.1.0, walk.1.1, IsWalk-wider board some more wider walk.1.0 es b walk.1.2))

-- one walk after another
pub IsWalk-append : (board : Board) (wires : ℕ → Type 0) (a : ℕ) (es : List ℕ) (b : ℕ) (fs : List ℕ) (c : ℕ)
    → IsWalk board wires a es b → IsWalk board wires b fs c → IsWalk board wires a (es ++ fs) c
IsWalk-append board wires a [] b fs c first second =
    subst (λ (x : ℕ). IsWalk board wires x fs c) (sym first) second
IsWalk-append board wires a (e ∷ es) b fs c first second =
    (first.0, (first.1.0, first.1.1, IsWalk-append board wires first.1.0 es b fs c first.1.2 second))

-- a walk of one wire
pub IsWalk-one : (board : Board) (wires : ℕ → Type 0) (e a b : ℕ) → wires e → Links board e a b
    → IsWalk board wires a (e ∷ []) b
IsWalk-one board wires e a b there links = (there, (b, links, refl))

-- a walk back
pub IsWalk-reverse : (board : Board) (wires : ℕ → Type 0) (a : ℕ) (es : List ℕ) (b : ℕ)
    → IsWalk board wires a es b → IsWalk board wires b (reverse es) a
IsWalk-reverse board wires a [] b walk = sym walk
IsWalk-reverse board wires a (e ∷ es) b walk =
    let x : ℕ = walk.1.0 in
    let back : IsWalk board wires x (e ∷ []) a =
    IsWalk-one board wires e x a walk.0 (Links-sym board e a x walk.1.1) in
    let whole : IsWalk board wires b (reverse es ++ e ∷ []) a =
    IsWalk-append board wires b (reverse es) x (e ∷ []) a (IsWalk-reverse board wires x es b walk.1.2) back in
    subst (λ (fs : List ℕ). IsWalk board wires b fs a) (sym (reverse-append (e ∷ []) es)) whole

-- a larger set joins what a smaller one joins
pub Joins-wider : (board : Board) (some more : ℕ → Type 0) → ((e : ℕ) → some e → more e) → (fpgas : List ℕ)
    → Joins board some fpgas → Joins board more fpgas
Joins-wider board some more wider fpgas joins a b there_a there_b =
    let walk = joins a b there_a there_b in
    (walk.0, IsWalk-wider board some more wider a walk.0 b walk.1)

-- walks from one FPGA to all join them
pub Joins-from_source : (board : Board) (wires : ℕ → Type 0) (source : ℕ) (fpgas : List ℕ)
    → ((b : ℕ) → Contains fpgas b → (es : List ℕ) × IsWalk board wires source es b) → Joins board wires fpgas
Joins-from_source board wires source fpgas walks a b there_a there_b =
    let first = walks a there_a in
    let second = walks b there_b in (
      reverse first.0 ++ second.0,
      IsWalk-append board wires a (reverse first.0) source second.0 b
          (IsWalk-reverse board wires source first.0 a first.1) second.1,
    )

-- the only element of a list of one
pub only : (x y : ℕ) → Contains (x ∷ []) y → x ≡ y
only x y (zero, there, is) = is
only x y (suc k, there, is) = absurd (omega arith)

-- either element of a list of two
pub either : (x y z : ℕ) → Contains (x ∷ y ∷ []) z → (x ≡ z) ⊎ (y ≡ z)
either x y z (zero, there, is) = inl is
either x y z (suc zero, there, is) = inr is
either x y z (suc (suc k), there, is) = absurd (omega arith)

-- nothing is an element of no list
none : (x : ℕ) → Contains [] x → ⊥
none x (k, there, is) = omega arith

-- a net on one FPGA needs no wire
pub IsMinimalTree-none : (board : Board) (fpga : ℕ) → IsMinimalTree board [] (fpga ∷ [])
IsMinimalTree-none board fpga = record {
  joins = λ a b there_a there_b. ([], sym (only fpga a there_a) ∙ only fpga b there_b);
  needs = λ e there. absurd (none e there);
}

-- a walk without wires stays where it is
walk-nowhere : (board : Board) (wires : ℕ → Type 0) → ((e : ℕ) → wires e → ⊥) → (a : ℕ) (es : List ℕ) (b : ℕ)
    → IsWalk board wires a es b → a ≡ b
walk-nowhere board wires empty a [] b walk = walk
walk-nowhere board wires empty a (e ∷ es) b walk = absurd (empty e walk.0)

-- a wire that links two FPGAs is a minimal tree of these
pub IsMinimalTree-one : (board : Board) (e a b : ℕ) → Links board e a b → a ≢ b
    → IsMinimalTree board (e ∷ []) (a ∷ b ∷ [])
IsMinimalTree-one board e a b links differ = record {
  joins = Joins-from_source board (Contains (e ∷ [])) a (a ∷ b ∷ [])
      (λ c there.
      ⊎_elim
      (λ first. ([], first))
      (λ second. (e ∷ [], ((0, omega arith, refl), (b, links, second))))
      (either a b c there));
  needs = λ d there joins.
      let walk = joins a b (0, omega arith, refl) (1, omega arith, refl) in
      differ
      (walk-nowhere board (λ f. Contains (e ∷ []) f × (f ≢ d)) (λ f inside. inside.1 (sym (only e f inside.0)
      ∙ only e d there)) a walk.0 b walk.1);
}

-- a wire that is read links its ends
pub Links-ends : (board : Board) (e : ℕ) (wire : Wire) → slice_get board.wires e ≡ Some wire
    → Links board e wire.a wire.b
Links-ends board e wire is = record { wire = wire; is = is; ends = inl (refl, refl) }

-- what a place in a list gives has what all have
holds-from_get : {X : Type 0} (P : X → Type 0) (xs : List X) (i : ℕ) (x : X) → All P xs
    → slice_get xs i ≡ Some x → P x
holds-from_get P [] i x all is = absurd (cc is)
holds-from_get P (y ∷ xs) zero x all is =
    let same : y ≡ x = cc is in
    subst P same (All-head P y xs all)
holds-from_get P (y ∷ xs) (suc i) x all is = holds-from_get P xs i x (All-tail P y xs all) is

-- a wire of the board joins two different FPGAs of it
pub IsWireOf-from_links : (board : Board) (e a b : ℕ) → IsBoard board → Links board e a b → (a < board.fpgas)
    × (b < board.fpgas) × (a ≢ b)
IsWireOf-from_links board e a b is links =
    let wire : IsWireOf board.fpgas links.wire =
    holds-from_get (IsWireOf board.fpgas) board.wires e links.wire is.wires links.is in
    ⊎_elim
    (λ forth. (
      omega (arith, wire.a_there, forth.0),
      omega (arith, wire.b_there, forth.1),
      λ same. wire.no_loop (forth.0 ∙ same ∙ sym forth.1),
    ))
    (λ back. (
      omega (arith, wire.b_there, back.1),
      omega (arith, wire.a_there, back.0),
      λ same. wire.no_loop (back.0 ∙ sym same ∙ sym back.1),
    ))
    links.ends
