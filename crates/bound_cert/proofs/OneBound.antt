-- A certificate has one bound, and no other.
use Rattle.std.proofs.Common.{◌≡◌, ℕ, zero, suc, Bool, true, false, ◌*◌, ◌<◌, length, refl, sym, ap, subst, ◌∙◌, arith}
use Rattle.tdm_problem.specs.Board.{Board}
use Rattle.tdm_problem.specs.Legal.{terminals_of}
use Rattle.tdm_problem.proofs.SumsBelow.{sum_below-agree}
use Rattle.tdm_problem.proofs.Roots.{root_of-square}
use Rattle.shortest_forest.proofs.BaselineLaws.{rising-same}
use Rattle.bound_cert.specs.declared.certificate.CertKind.{CertKind}
use Rattle.bound_cert.specs.declared.certificate.CertKind.TheVariants.{Share, Hop}
use Rattle.bound_cert.specs.Certificate.{Cert, length_of}
use Rattle.bound_cert.specs.Growth.{IsNetGrowth, IsGrowth}
use Rattle.bound_cert.specs.Bound.{IsSpreadBy, demand_by, divisor_of, least_even, net_spread, weight_of_net, root_of_net, root_sum, weight_sum}
use Rattle.bound_cert.specs.Laws.{OneBoundLaw, SomeBoundLaw, ChosenBoundLaw}
use Rattle.bound_cert.proofs.NetSpreads.{root_of-none}
use Rattle.bound_cert.proofs.OneGrowth.{one_growth}
use Rattle.bound_cert.proofs.SomeGrowth.{some_growth}
use Rattle.bound_cert.proofs.Rising.{some_rising}

-- a net grows by one number alone
pub one_net_growth : (board : Board) (wire_length : ℕ → ℕ) (n growth other : ℕ)
    → IsNetGrowth board wire_length n growth → IsNetGrowth board wire_length n other → growth ≡ other
one_net_growth board wire_length n growth other is at =
    let same : is.rising ≡ at.rising = rising-same is.rising at.rising is.are.rises at.are.rises
    (λ f inside. (at.are.same f).1 ((is.are.same f).0 inside))
    (λ f inside. (is.are.same f).1 ((at.are.same f).0 inside)) in
    one_growth board wire_length at.rising growth other
    (subst (λ fpgas. IsGrowth board wire_length fpgas growth) same is.grows) at.grows

one_spread : (grows : Bool) (board : Board) (cert : Cert) (n spread other : ℕ)
    → IsSpreadBy grows board cert n spread → IsSpreadBy grows board cert n other → spread ≡ other
one_spread true board cert n spread other is at = one_net_growth board (length_of cert) n spread other is at
one_spread false board cert n spread other is at = omega (arith, is, at)

-- a factor that is 0 where there is no weight
times-same : (weight factor spread other : ℕ) → (weight ≡ 0 → factor ≡ 0) → (0 < weight → spread ≡ other)
    → factor * spread ≡ factor * other
times-same zero factor spread other none same = let no : factor ≡ 0 = none refl in rw no (omega arith)
times-same (suc w) factor spread other none same = ap (λ (s : ℕ). factor * s) (same (omega arith))

module _ (board : Board) (cert : Cert) (spreads others : ℕ → ℕ) (same : (n : ℕ) → n < length board.nets
    → 0 < weight_of_net board cert n → spreads n ≡ others n) where
  same_demand : (kind : CertKind) → demand_by kind board cert spreads ≡ demand_by kind board cert others
  same_demand Share =
      let sums : root_sum board cert spreads ≡ root_sum board cert others =
      sum_below-agree (length board.nets) (λ n. root_of_net board cert n * spreads n)
      (λ n. root_of_net board cert n * others n)
      (λ n there. times-same (weight_of_net board cert n) (root_of_net board cert n) (spreads n) (others n)
      (root_of-none (weight_of_net board cert n) (root_of_net board cert n)
      (root_of-square (weight_of_net board cert n))) (same n there)) in
      rw sums refl
  same_demand (Hop unit) =
      let sums : weight_sum board cert spreads ≡ weight_sum board cert others =
      sum_below-agree (length board.nets) (λ n. weight_of_net board cert n * spreads n)
      (λ n. weight_of_net board cert n * others n)
      (λ n there. times-same (weight_of_net board cert n) (weight_of_net board cert n) (spreads n) (others n)
      (λ none. none) (same n there)) in
      rw sums refl

pub one_bound : OneBoundLaw
one_bound board cert bound other is at =
    is.bound_is
    ∙ ap (λ (demand : ℕ). least_even demand (divisor_of cert)) (same_demand board cert is.spreads at.spreads
    (λ n there weighs. one_spread cert.grows board cert n (is.spreads n) (at.spreads n)
    (is.are n there weighs) (at.are n there weighs)) cert.kind)
    ∙ sym at.bound_is

pub chosen_bound : ChosenBoundLaw
chosen_bound board cert chosen = record {
  spreads = net_spread board cert;
  are = λ n there weighs. subst (λ (grows : Bool). IsSpreadBy grows board cert n (net_spread board cert n))
      (sym chosen) refl;
  bound_is = refl;
}

-- a net grows by some number
some_net_growth : (board : Board) (wire_length : ℕ → ℕ) (n : ℕ) → (growth : ℕ)
    × IsNetGrowth board wire_length n growth
some_net_growth board wire_length n =
    let rising = some_rising (terminals_of board n) in
    let grown = some_growth board wire_length rising.0 in
    (grown.0, record { rising = rising.0; are = rising.1; grows = grown.1 })

some_spread : (grows : Bool) (board : Board) (cert : Cert) (n : ℕ) → (spread : ℕ)
    × IsSpreadBy grows board cert n spread
some_spread true board cert n = some_net_growth board (length_of cert) n
some_spread false board cert n = (net_spread board cert n, refl)

pub some_bound : SomeBoundLaw
some_bound board cert = (
  _,
  record {
    spreads = λ n. (some_spread cert.grows board cert n).0;
    are = λ n there weighs. (some_spread cert.grows board cert n).1;
    bound_is = refl;
  },
)
