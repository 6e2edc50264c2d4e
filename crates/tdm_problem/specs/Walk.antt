use Rattle.std.specs.Prelude.{◌≡◌, ◌≢◌, ℕ, ◌<◌, ◌⊎◌, List, [], ◌∷◌, length, slice_get, Some, Contains}
use Rattle.tdm_problem.specs.declared.wire.Wire.{Wire}
use Rattle.tdm_problem.specs.Board.{Board}

-- wire e of the board joins the FPGAs a and b
pub record Links (board : Board) (e a b : ℕ) : Type 0 where
  pub wire : Wire
  pub is : slice_get board.wires e ≡ Some wire
  pub ends : ((wire.a ≡ a) × (wire.b ≡ b)) ⊎ ((wire.a ≡ b) × (wire.b ≡ a))

-- the listed wires, all of the set, lead one after another from a to b
abbrev pub IsWalk : Board → (ℕ → Type 0) → ℕ → List ℕ → ℕ → Type 0
IsWalk board wires a [] b = a ≡ b
IsWalk board wires a (e ∷ es) b = wires e × ((x : ℕ) × Links board e a x × IsWalk board wires x es b)

-- any two of the FPGAs have a walk in the set of wires
abbrev pub Joins : Board → (ℕ → Type 0) → List ℕ → Type 0
Joins board wires fpgas = (a b : ℕ) → Contains fpgas a → Contains fpgas b
    → (es : List ℕ) × IsWalk board wires a es b

-- the set of all wires of the board
abbrev pub AnyWire : Board → ℕ → Type 0
AnyWire board e = e < length board.wires

-- all wires of the board together join the FPGAs
abbrev pub IsConnectable : Board → List ℕ → Type 0
IsConnectable board fpgas = Joins board (AnyWire board) fpgas

-- the wires join the FPGAs, and no longer do without any one of them
pub record IsMinimalTree (board : Board) (wires : List ℕ) (fpgas : List ℕ) : Type 0 where
  pub joins : Joins board (Contains wires) fpgas
  pub needs : (e : ℕ) → Contains wires e → ¬ Joins board (λ d. Contains wires d × (d ≢ e)) fpgas
