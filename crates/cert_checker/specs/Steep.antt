-- Where a certificate is not valid first.
use Rattle.std.specs.Prelude.{ℕ, ◌<◌, length}
use Rattle.tdm_problem.specs.Board.{Board}
use Rattle.bound_cert.specs.Certificate.{Cert}
use Rattle.bound_cert.specs.Valid.{IsSteep}
use Rattle.cert_checker.specs.declared.steep.Steep.{Steep}

-- potential p is steep along no wire
abbrev pub IsLevel : Board → Cert → (p : ℕ) → Type 0
IsLevel board cert p = (e : ℕ) → ¬ IsSteep board cert p e

-- potential p is steep along wire e, and along no earlier wire
pub record IsFirstSteepWire (board : Board) (cert : Cert) (p e : ℕ) : Type 0 where
  pub there : e < length board.wires
  pub steep : IsSteep board cert p e
  pub earlier : (d : ℕ) → d < e → ¬ IsSteep board cert p d

-- the pair is there and steep, and no earlier pair is: potentials rising, and wires rising within one
pub record IsFirstSteep (board : Board) (cert : Cert) (pair : Steep) : Type 0 where
  pub there : pair.potential < length cert.potentials
  pub first_wire : IsFirstSteepWire board cert pair.potential pair.wire
  pub earlier : (p : ℕ) → p < pair.potential → IsLevel board cert p
