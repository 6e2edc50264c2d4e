-- where potentials are steep, and that a certificate is valid where none is
use Rattle.std.proofs.Common.{◌≡◌, ℕ, ◌+◌, ◌<◌, ◌≤◌, List, length, get_or, Some, sym, ap, ◌∙◌, ◌⊎◌, inl, inr, ⊎_elim, subst, arith}
use Rattle.std.specs.Prelude.{slice_get}
use Rattle.std.proofs.lemmas.Bool.{cases_lt, cases_order}
use Rattle.std.proofs.lemmas.Option.{get_or_from_slice_get, slice_get_within}
use Rattle.tdm_problem.specs.declared.wire.Wire.{Wire}
use Rattle.tdm_problem.specs.Board.{Board}
use Rattle.bound_cert.specs.Certificate.{Cert, length_of, potential_of, value_at}
use Rattle.bound_cert.specs.Valid.{IsValid, IsSteep}
use Rattle.cert_checker.specs.declared.steep.Steep.{Steep}
use Rattle.cert_checker.specs.Steep.{IsLevel, IsFirstSteepWire, IsFirstSteep}

-- along the wire the potential rises, one way or the other, by more than the limit
abbrev pub IsSteepAlong : (potential : List ℕ) → Wire → (limit : ℕ) → Type 0
IsSteepAlong potential wire limit =
    (get_or potential wire.a 0 + limit < get_or potential wire.b 0)
    ⊎ (get_or potential wire.b 0 + limit < get_or potential wire.a 0)

-- a wire that is not steep by its ends is not steep
pub not_steep_here : (board : Board) (cert : Cert) (p e : ℕ) (wire : Wire) (potential : List ℕ) (limit : ℕ)
    → slice_get board.wires e ≡ Some wire → potential_of cert p ≡ potential → limit ≡ length_of cert e
    → ¬ IsSteepAlong potential wire limit → ¬ IsSteep board cert p e
not_steep_here board cert p e wire potential limit there values is level = λ steep.
    let here : steep.links.wire ≡ wire =
    sym (get_or_from_slice_get board.wires e steep.links.wire wire steep.links.is)
    ∙ get_or_from_slice_get board.wires e wire wire there in
    let at : (x y : ℕ) → y ≡ x → value_at (potential_of cert p) x ≡ get_or potential y 0 =
    λ x y same. ap (λ (vs : List ℕ). get_or vs x 0) values
    ∙ ap (λ (k : ℕ). get_or potential k 0) (sym same) in
    let ends : (wire.a ≡ steep.a) × (wire.b ≡ steep.b) ⊎ (wire.a ≡ steep.b) × (wire.b ≡ steep.a) =
    rw here at steep.links.ends in
    ⊎_elim
    (λ (way : (wire.a ≡ steep.a) × (wire.b ≡ steep.b)). level
    (inl (omega (arith, steep.more, at steep.a wire.a way.0, at steep.b wire.b way.1, is))))
    (λ (way : (wire.a ≡ steep.b) × (wire.b ≡ steep.a)). level
    (inr (omega (arith, steep.more, at steep.a wire.b way.1, at steep.b wire.a way.0, is))))
    ends

-- a potential that is steep along no wire of the board is level
pub level_all : (board : Board) (cert : Cert) (p n : ℕ) → length board.wires ≤ n
    → ((d : ℕ) → d < n → ¬ IsSteep board cert p d) → IsLevel board cert p
level_all board cert p n done none = λ e steep.
    none e (omega (arith, slice_get_within board.wires e steep.links.wire steep.links.is)) steep

-- a certificate whose potentials are level is valid
pub valid_from_level : (board : Board) (cert : Cert) (n : ℕ) → length cert.potentials ≤ n
    → ((p : ℕ) → p < n → IsLevel board cert p) → IsValid board cert
valid_from_level board cert n done level = λ p e a b there links.
    ⊎_elim
    (λ (more : value_at (potential_of cert p) a + length_of cert e < value_at (potential_of cert p) b). absurd
    (level p (omega arith) e (record { a = a; b = b; links = links; more = more })))
    (λ (gentle : value_at (potential_of cert p) b ≤ value_at (potential_of cert p) a + length_of cert e).
    gentle)
    (cases_lt (value_at (potential_of cert p) a + length_of cert e) (value_at (potential_of cert p) b))

-- a certificate with a steep pair is not valid
pub first_not_valid : (board : Board) (cert : Cert) (pair : Steep) → IsFirstSteep board cert pair
    → ¬ IsValid board cert
first_not_valid board cert pair first = λ valid.
    let steep : IsSteep board cert pair.potential pair.wire = first.first_wire.steep in
    omega (arith, steep.more, valid pair.potential pair.wire steep.a steep.b first.there steep.links)

-- there is one first steep wire of a potential
first_wire_unique : (board : Board) (cert : Cert) (p d e : ℕ) → IsFirstSteepWire board cert p d
    → IsFirstSteepWire board cert p e → e ≡ d
first_wire_unique board cert p d e first second = elim (cases_order e d) [
  | inl same ↦ same
  | inr apart ↦ elim apart [
    | inl below ↦ absurd (first.earlier e below second.steep)
    | inr above ↦ absurd (second.earlier d above first.steep)
  ]
]

-- there is one first steep pair
pub first_unique : (board : Board) (cert : Cert) (x y : Steep) → IsFirstSteep board cert x
    → IsFirstSteep board cert y → y ≡ x
first_unique board cert x y first second = elim (cases_order y.potential x.potential) [
  | inl same ↦
      let here : IsFirstSteepWire board cert x.potential y.wire =
      subst (λ (p : ℕ). IsFirstSteepWire board cert p y.wire) same second.first_wire in
      let wire : y.wire ≡ x.wire = first_wire_unique board cert x.potential x.wire y.wire first.first_wire
      here in
      ap (λ (p : ℕ). record { potential = p; wire = y.wire }) same
      ∙ ap (λ (e : ℕ). record { potential = x.potential; wire = e }) wire
  | inr apart ↦ elim apart [
    | inl below ↦ absurd (first.earlier y.potential below y.wire second.first_wire.steep)
    | inr above ↦ absurd (second.earlier x.potential above x.wire first.first_wire.steep)
  ]
]
