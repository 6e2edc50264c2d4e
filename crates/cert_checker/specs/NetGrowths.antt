-- How far the nets of a board grow.
use Rattle.std.specs.Prelude.{◌≡◌, ℕ, ◌<◌, List, length, slice_index, All, Contains}
use Rattle.tdm_problem.specs.Board.{Board}
use Rattle.bound_cert.specs.Growth.{IsNetGrowth}
use Rattle.cert_checker.specs.declared.net_growths.SetMark.{SetMark}

-- each net that has a weight grows so far, and each other net has the number 0
pub record AreGrowths (board : Board) (wire_length : ℕ → ℕ) (weights growths : List ℕ) : Type 0 where
  pub whole : length growths ≡ length board.nets
  pub each : (n : ℕ) → n < length board.nets → 0 < slice_index weights n
      → IsNetGrowth board wire_length n (slice_index growths n)
  pub none : (n : ℕ) → slice_index weights n ≡ 0 → slice_index growths n ≡ 0

-- the net stands in the list, with any mark
abbrev pub HasNet : List SetMark → (n : ℕ) → Type 0
HasNet marks n = (m : SetMark) × Contains marks m × (m.net ≡ n)

-- the marks are of nets of the board that have a weight
abbrev pub AreWeighed : List ℕ → List SetMark → Type 0
AreWeighed weights marks = All (λ m. (m.net < length weights) × (0 < slice_index weights m.net)) marks
