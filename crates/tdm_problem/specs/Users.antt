use Rattle.std.specs.Prelude.{ℕ, suc, ◌==◌, List, [], ◌∷◌, ◌++◌, map, filter}
use Rattle.tdm_problem.specs.declared.solution.WireUse.{WireUse}
use Rattle.tdm_problem.specs.Routing.{Routing}

-- a net on a wire, with its ratio there
pub record User : Type 0 where
  pub net : ℕ
  pub ratio : ℕ

-- the uses of wire e by net n
abbrev pub users_in : (n : ℕ) → List WireUse → (e : ℕ) → List User
users_in n uses e = map (λ u. record { net = n; ratio = u.ratio }) (filter (λ u. u.wire == e) uses)

-- the nets on wire e with their ratios, where the first net has number n
abbrev pub users_from : (n : ℕ) → Routing → (e : ℕ) → List User
users_from n [] e = []
users_from n (uses ∷ routing) e = users_in n uses e ++ users_from (suc n) routing e

-- the nets on wire e with their ratios, nets rising
abbrev pub users_on : Routing → (e : ℕ) → List User
users_on routing e = users_from 0 routing e
