-- The way back of a search is a path that the tree may grow by.
use Rattle.std.proofs.Common.{◌≡◌, ℕ, ◌≤◌, List, [], ◌∷◌, length, ap, subst, inl, inr, arith}
use Rattle.tdm_problem.specs.Board.{Board}
use Rattle.shortest_forest.specs.Labels.{Labels, IsSource, IsWayBack}
use Rattle.shortest_forest.proofs.BaselineLaws.{other-end}
use Rattle.shortest_forest.proofs.UnderWay.{not_source}
use Rattle.shortest_forest.proofs.WayLaws.{way_back-unique}
use Rattle.steiner_build.specs.Growth.{IsOn, IsBranch}

module _ (board : Board) (s : Labels) where
  -- from an FPGA on the way back the rest of it leads on
  way-from : (x : ℕ) (es : List ℕ) (source a : ℕ) → IsWayBack board s x es source → IsOn board x es a
      → (fs : List ℕ) × IsWayBack board s a fs source × (length fs ≤ length es)
  way-from x [] source a way on = absurd on
  way-from x (e ∷ es) source a way (inl same) =
      (e ∷ es, subst (λ (z : ℕ). IsWayBack board s z (e ∷ es) source) same way, omega arith)
  way-from x (e ∷ es) source a way (inr on) =
      let near : on.0 ≡ way.2.0 = other-end board e x on.0 way.2.0 on.1 way.2.1 in
      let rest = way-from way.2.0 es source a way.2.2 (subst (λ (z : ℕ). IsOn board z es a) near on.2) in
      (rest.0, rest.1, omega (arith, rest.2))

  -- the way back is a path by FPGAs that are no sources, none of them twice
  pub way-branch : (a : ℕ) (es : List ℕ) (source : ℕ) → IsWayBack board s a es source
      → IsBranch board (IsSource s) a es
  way-branch a [] source way = way.1
  way-branch a (e ∷ es) source way = (
    λ h. not_source s a 0 way.0 e h way.1,
    (
      way.2.0,
      way.2.1,
      way-branch way.2.0 es source way.2.2,
      λ on.
          let rest = way-from way.2.0 es source a way.2.2 on in
          let same : e ∷ es ≡ rest.0 = way_back-unique board s a (e ∷ es) source rest.0 source way rest.1 in
          omega (arith, ap length same, rest.2),
    ),
  )

-- a path under another word for what is reached
pub branch-as : (board : Board) (a : ℕ) (es : List ℕ) (reached reached' : ℕ → Type 0)
    → ((f : ℕ) → reached f → reached' f) → ((f : ℕ) → reached' f → reached f) → IsBranch board reached a es
    → IsBranch board reached' a es
branch-as board a [] reached reached' to back branch = to a branch
branch-as board a (e ∷ es) reached reached' to back branch = (
  λ h. branch.0 (back a h),
  (branch.1.0, branch.1.1, branch-as board branch.1.0 es reached reached' to back branch.1.2, branch.1.3),
)
