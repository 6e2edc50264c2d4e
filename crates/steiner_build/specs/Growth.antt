-- A tree that grows: the wires so far, the FPGAs that they reach, and the terminals that are joined.
use Rattle.std.specs.Prelude.{◌≡◌, ◌≢◌, ℕ, ◌+◌, ◌<◌, ◌⊎◌, List, [], ◌∷◌, length, All, AllPairs, Contains}
use Rattle.tdm_problem.specs.Board.{Board}
use Rattle.tdm_problem.specs.Walk.{Links, IsWalk}

-- the wires join all FPGAs that are reached and touch no others, the terminals are reached,
-- and without any one wire some two terminals are joined no longer
pub record IsGrown (board : Board) (wires reached terminals : ℕ → Type 0) : Type 0 where
  pub inside : (t : ℕ) → terminals t → reached t
  pub within : (e a b : ℕ) → wires e → Links board e a b → reached a
  pub joined : (a b : ℕ) → reached a → reached b → (es : List ℕ) × IsWalk board wires a es b
  pub needs : (e : ℕ) → wires e → ¬ ((a b : ℕ) → terminals a → terminals b
      → (es : List ℕ) × IsWalk board (λ d. wires d × (d ≢ e)) a es b)

-- some FPGAs that are reached are one more than the wires
pub record IsOneMore (board : Board) (wires : List ℕ) (reached : ℕ → Type 0) : Type 0 where
  pub fpgas : List ℕ
  pub count : length fpgas ≡ length wires + 1
  pub distinct : AllPairs (λ x y. x ≢ y) fpgas
  pub below : All (λ f. f < board.fpgas) fpgas
  pub there : (f : ℕ) → Contains fpgas f → reached f

-- the wires, none of them twice, are a grown tree, and fewer than the FPGAs
pub record IsTree (board : Board) (wires : List ℕ) (reached terminals : ℕ → Type 0) : Type 0 where
  pub grown : IsGrown board (Contains wires) reached terminals
  pub distinct : AllPairs (λ d e. d ≢ e) wires
  pub one_more : IsOneMore board wires reached

-- FPGA f is on the path of the listed wires from a, its end left out
abbrev pub IsOn : Board → ℕ → List ℕ → ℕ → Type 0
IsOn board a [] f = ⊥
IsOn board a (e ∷ es) f = (a ≡ f) ⊎ ((x : ℕ) × Links board e a x × IsOn board x es f)

-- the listed wires lead from a to an FPGA that is reached, by FPGAs that are not, none of them twice
abbrev pub IsBranch : Board → (ℕ → Type 0) → ℕ → List ℕ → Type 0
IsBranch board reached a [] = reached a
IsBranch board reached a (e ∷ es) = ¬ reached a × ((x : ℕ) × Links board e a x × IsBranch board reached x es
    × ¬ IsOn board x es a)

-- no number comes twice
abbrev pub IsApart : List ℕ → Type 0
IsApart [] = Unit {0}
IsApart (x ∷ xs) = ¬ Contains xs x × IsApart xs
