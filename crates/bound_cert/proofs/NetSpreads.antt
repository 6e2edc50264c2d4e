-- Each net's wires in a legal routing are together at least as long as the net is spread, by its choice or by
-- its growth.
use Rattle.std.proofs.Common.{◌≡◌, ℕ, zero, suc, Bool, true, false, ◌*◌, ◌<◌, ◌≤◌, List, [], ◌∷◌, length, refl, sym, subst, ⊎_elim, arith, mul-le-mul_left}
use Rattle.std.specs.Prelude.{Contains, sum_by}
use Rattle.std.proofs.lemmas.Bool.{cases_lt}
use Rattle.std.proofs.lemmas.List.{get_or_past}
use Rattle.std.proofs.lemmas.List.Sums.{sum_by-cons}
use Rattle.tdm_problem.specs.declared.solution.WireUse.{WireUse}
use Rattle.tdm_problem.specs.Board.{Board}
use Rattle.tdm_problem.specs.Routing.{Routing, uses_of, wires_of}
use Rattle.tdm_problem.specs.Walk.{Joins}
use Rattle.tdm_problem.specs.Legal.{IsLegal, terminals_of}
use Rattle.tdm_problem.proofs.Roots.{root_of-square}
use Rattle.bound_cert.specs.Certificate.{Cert, length_of, potential_of, choice_of}
use Rattle.bound_cert.specs.Valid.{IsValid}
use Rattle.bound_cert.specs.Bound.{chosen_spread, net_spread, IsSpreadBy, IsBound, weight_of_net, root_of_net}
use Rattle.bound_cert.specs.Laws.{IsGentle}
use Rattle.bound_cert.proofs.Spreads.{spread-le_lengths}
use Rattle.bound_cert.proofs.GrowthLaws.{growth-le_lengths}

-- each potential of a valid certificate is gentle, also one that is not there, which is 0 everywhere
IsGentle-valid : (board : Board) (cert : Cert) → IsValid board cert → (p : ℕ)
    → IsGentle board (potential_of cert p) (length_of cert)
IsGentle-valid board cert valid p =
    ⊎_elim
    (λ (there : p < length cert.potentials). λ e a b links. valid p e a b there links)
    (λ (past : length cert.potentials ≤ p).
    subst (λ (potential : List ℕ). IsGentle board potential (length_of cert))
    (sym (get_or_past cert.potentials p [] past))
    (λ e a b links. omega arith))
    (cases_lt p (length cert.potentials))

-- wires that join FPGAs are at least as long as the chosen potential is spread, where there is one
chosen_spread-le_lengths : (board : Board) (cert : Cert) (wires fpgas : List ℕ) → IsValid board cert
    → Joins board (Contains wires) fpgas →
    (choice : ℕ) → chosen_spread cert fpgas choice ≤ sum_by (length_of cert) wires
chosen_spread-le_lengths board cert wires fpgas valid joins zero = omega arith
chosen_spread-le_lengths board cert wires fpgas valid joins (suc p) =
    spread-le_lengths board (potential_of cert p) (length_of cert) wires fpgas
    (IsGentle-valid board cert valid p) joins

-- a sum over the wires of uses
sum_by-wires : (f : ℕ → ℕ) (uses : List WireUse) → sum_by f (wires_of uses) ≡ sum_by (λ u. f u.wire) uses
sum_by-wires f [] = omega arith
sum_by-wires f (u ∷ uses) =
    omega (
      arith,
      sum_by-cons f u.wire (wires_of uses),
      sum_by-cons (λ (v : WireUse). f v.wire) u uses,
      sum_by-wires f uses,
    )

-- the lengths of the wires that net n uses
abbrev pub net_length : Cert → Routing → (n : ℕ) → ℕ
net_length cert routing n = sum_by (λ (u : WireUse). length_of cert u.wire) (uses_of routing n)

-- a net's wires are at least as long as its potential is spread
pub net_spread-le_length : (board : Board) (cert : Cert) (routing : Routing) → IsValid board cert
    → IsLegal board routing →
    (n : ℕ) → n < length board.nets → net_spread board cert n ≤ net_length cert routing n
net_spread-le_length board cert routing valid legal n there =
    let wires : List ℕ = wires_of (uses_of routing n) in
    omega (
      arith,
      chosen_spread-le_lengths board cert wires (terminals_of board n) valid (legal.joined n there)
          (choice_of cert n),
      sum_by-wires (length_of cert) (uses_of routing n),
    )

-- so they are as it grows
spread_by-le_length : (grows : Bool) (board : Board) (cert : Cert) (routing : Routing) → IsValid board cert
    → IsLegal board routing →
    (n spread : ℕ) → n < length board.nets → IsSpreadBy grows board cert n spread
    → spread ≤ net_length cert routing n
spread_by-le_length false board cert routing valid legal n spread there is =
    omega (arith, is, net_spread-le_length board cert routing valid legal n there)
spread_by-le_length true board cert routing valid legal n spread there is =
    let wires : List ℕ = wires_of (uses_of routing n) in
    let joins : Joins board (Contains wires) is.rising =
    λ a b in_a in_b. legal.joined n there a b ((is.are.same a).0 in_a) ((is.are.same b).0 in_b) in
    omega (
      arith,
      growth-le_lengths board (length_of cert) wires is.rising spread is.grows joins,
      sum_by-wires (length_of cert) (uses_of routing n),
    )

-- each net that has weight is spread no farther than its wires are long
abbrev pub AreShort : Board → Cert → Routing → (spreads : ℕ → ℕ) → Type 0
AreShort board cert routing spreads = (n : ℕ) → n < length board.nets → 0 < weight_of_net board cert n
    → spreads n ≤ net_length cert routing n

pub short-chosen : (board : Board) (cert : Cert) (routing : Routing) → IsValid board cert
    → IsLegal board routing → AreShort board cert routing (net_spread board cert)
short-chosen board cert routing valid legal n there weighs =
    net_spread-le_length board cert routing valid legal n there

pub short-bound : (board : Board) (cert : Cert) (bound : ℕ) (routing : Routing) → IsValid board cert
    → IsLegal board routing → (is : IsBound board cert bound) → AreShort board cert routing is.spreads
short-bound board cert bound routing valid legal is n there weighs =
    spread_by-le_length cert.grows board cert routing valid legal n (is.spreads n) there
    (is.are n there weighs)

-- a factor that is 0 where there is no weight
times-short : (weight factor spread length : ℕ) → (weight ≡ 0 → factor ≡ 0) → (0 < weight → spread ≤ length)
    → factor * spread ≤ factor * length
times-short zero factor spread length none short = let no : factor ≡ 0 = none refl in rw no (omega arith)
times-short (suc w) factor spread length none short = mul-le-mul_left factor (short (omega arith))

pub root_of-none : (weight root : ℕ) → root * root ≤ weight → weight ≡ 0 → root ≡ 0
root_of-none weight zero square none = refl
root_of-none weight (suc r) square none = absurd (omega (arith, square, none))

module _ (board : Board) (cert : Cert) (routing : Routing) (spreads : ℕ
    → ℕ) (short : AreShort board cert routing spreads) (n : ℕ) (there : n < length board.nets) where
  -- by weights and by their roots
  pub weight-short : weight_of_net board cert n * spreads n
      ≤ weight_of_net board cert n * net_length cert routing n
  weight-short = times-short (weight_of_net board cert n) (weight_of_net board cert n) (spreads n)
      (net_length cert routing n) (λ none. none) (short n there)

  pub root-short : root_of_net board cert n * spreads n ≤ root_of_net board cert n * net_length cert routing n
  root-short =
      times-short (weight_of_net board cert n) (root_of_net board cert n) (spreads n)
      (net_length cert routing n)
      (root_of-none (weight_of_net board cert n) (root_of_net board cert n)
      (root_of-square (weight_of_net board cert n))) (short n there)
