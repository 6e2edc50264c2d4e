-- The number that a certificate bounds the value of every legal solution by.
use Rattle.std.specs.Prelude.{◌≡◌, ℕ, zero, suc, Bool, true, false, ◌<◌, ◌-◌, ◌*◌, min, List, [], ◌∷◌, length, map, sum, sum_by}
use Rattle.std.specs.Int.{div_ceil}
use Rattle.tdm_problem.specs.Board.{Board}
use Rattle.tdm_problem.specs.Legal.{terminals_of}
use Rattle.tdm_problem.specs.Value.{largest}
use Rattle.tdm_problem.specs.Sums.{sum_below}
use Rattle.tdm_problem.specs.Weights.{net_weight}
use Rattle.tdm_problem.specs.Roots.{root_of}
use Rattle.bound_cert.specs.declared.certificate.CertKind.{CertKind}
use Rattle.bound_cert.specs.declared.certificate.CertKind.TheVariants.{Share, Hop}
use Rattle.bound_cert.specs.Certificate.{Cert, length_of, potential_of, value_at, choice_of}
use Rattle.bound_cert.specs.Growth.{IsNetGrowth}

-- the smallest of the numbers, 0 of none
abbrev pub smallest : List ℕ → ℕ
smallest [] = 0
smallest (x ∷ []) = x
smallest (x ∷ y ∷ xs) = min x (smallest (y ∷ xs))

-- how far a potential's values at these FPGAs lie apart
abbrev pub spread : (potential fpgas : List ℕ) → ℕ
spread potential fpgas = largest (map (value_at potential) fpgas) - smallest (map (value_at potential) fpgas)

-- how far the values of the chosen potential lie apart, 0 where none is chosen
abbrev pub chosen_spread : Cert → (fpgas : List ℕ) → (choice : ℕ) → ℕ
chosen_spread cert fpgas zero = 0
chosen_spread cert fpgas (suc p) = spread (potential_of cert p) fpgas

-- how far the values of the potential that net n chooses lie apart over its FPGAs
abbrev pub net_spread : Board → Cert → (n : ℕ) → ℕ
net_spread board cert n = chosen_spread cert (terminals_of board n) (choice_of cert n)

-- the weight of net n: the sum of the weights of the groups that hold it
abbrev pub weight_of_net : Board → Cert → (n : ℕ) → ℕ
weight_of_net board cert n = net_weight board.groups cert.weights n

-- the root of the weight of net n, a whole number
abbrev pub root_of_net : Board → Cert → (n : ℕ) → ℕ
root_of_net board cert n = root_of (weight_of_net board cert n)

-- the sum over all nets of the spread times the root of the weight
abbrev pub root_sum : Board → Cert → (spreads : ℕ → ℕ) → ℕ
root_sum board cert spreads = sum_below (length board.nets) (λ n. root_of_net board cert n * spreads n)

-- the sum over all nets of the spread times the weight
abbrev pub weight_sum : Board → Cert → (spreads : ℕ → ℕ) → ℕ
weight_sum board cert spreads = sum_below (length board.nets) (λ n. weight_of_net board cert n * spreads n)

-- what the bound of a certificate of this kind, times its divisor, has to reach where nets have these
-- spreads; 0 where that is negative
abbrev pub demand_by : CertKind → Board → Cert → (spreads : ℕ → ℕ) → ℕ
demand_by Share board cert spreads = 2 * root_sum board cert spreads - sum_by (λ l. l * l) cert.lengths
demand_by (Hop unit) board cert spreads = 2 * weight_sum board cert spreads

-- the sum over all nets of the spread by the net's choice times the root of the weight
abbrev pub root_spreads : Board → Cert → ℕ
root_spreads board cert = root_sum board cert (net_spread board cert)

-- the sum over all nets of the spread by the net's choice times the weight
abbrev pub weight_spreads : Board → Cert → ℕ
weight_spreads board cert = weight_sum board cert (net_spread board cert)

-- the demand of a certificate of this kind where nets have the spreads by their choices
abbrev pub demand_of_kind : CertKind → Board → Cert → ℕ
demand_of_kind kind board cert = demand_by kind board cert (net_spread board cert)

-- the demand of the certificate where nets have the spreads by their choices
abbrev pub demand_of : Board → Cert → ℕ
demand_of board cert = demand_of_kind cert.kind board cert

-- the divisor of a certificate of this kind: by shares the sum of all weights, by hops the unit times that
-- sum
abbrev pub divisor_of_kind : CertKind → (weights : List ℕ) → ℕ
divisor_of_kind Share weights = sum weights
divisor_of_kind (Hop unit) weights = unit * sum weights

-- the divisor of the certificate
abbrev pub divisor_of : Cert → ℕ
divisor_of cert = divisor_of_kind cert.kind cert.weights

-- the least even number that, times the divisor, is at least the demand; 0 where the divisor is 0
abbrev pub least_even : (demand divisor : ℕ) → ℕ
least_even demand zero = 0
least_even demand (suc d) = 2 * div_ceil demand (2 * suc d)

-- the bound of the certificate by the choices of nets
abbrev pub bound_of : Board → Cert → ℕ
bound_of board cert = least_even (demand_of board cert) (divisor_of cert)

-- net n is spread so far: by its growth where nets grow, and else by its choice
abbrev pub IsSpreadBy : (grows : Bool) → Board → Cert → (n spread : ℕ) → Type 0
IsSpreadBy true board cert n spread = IsNetGrowth board (length_of cert) n spread
IsSpreadBy false board cert n spread = spread ≡ net_spread board cert n

-- the number is the bound of the certificate, by the spreads of the nets that have weight
pub record IsBound (board : Board) (cert : Cert) (bound : ℕ) : Type 0 where
  pub spreads : ℕ → ℕ
  pub are : (n : ℕ) → n < length board.nets → 0 < weight_of_net board cert n
      → IsSpreadBy cert.grows board cert n (spreads n)
  pub bound_is : bound ≡ least_even (demand_by cert.kind board cert spreads) (divisor_of cert)
