-- The spreads of the first nets of a board, one more at a time.
use Rattle.std.proofs.Common.{◌≡◌, ℕ, ◌+◌, ◌<◌, ◌≤◌, ◌++◌, List, [], ◌∷◌, true, false, length, get_or, refl, sym, subst, ◌∙◌, ⊎_elim, arith}
use Rattle.std.specs.Prelude.{All}
use Rattle.std.proofs.lemmas.Bool.{cases_lt}
use Rattle.std.proofs.lemmas.List.{get_or_push, get_or_append_left, length_push}
use Rattle.std.proofs.lemmas.List.Elements.{All-nil, All-push, All-get_or, All-from_get_or}
use Rattle.tdm_problem.specs.Board.{Board}
use Rattle.bound_cert.specs.declared.certificate.CertKind.{CertKind}
use Rattle.bound_cert.specs.declared.certificate.CertKind.TheVariants.{Share, Hop}
use Rattle.bound_cert.specs.Certificate.{Cert, IsCert, HasLengths, length_of}
use Rattle.bound_cert.specs.Limits.{most_length, most_unit, most_potential_value}
use Rattle.bound_cert.specs.Growth.{IsGrowth}
use Rattle.bound_cert.specs.Bound.{weight_of_net, net_spread, IsSpreadBy}
use Rattle.cert_checker.specs.NetWeights.{AreNetWeights}
use Rattle.cert_checker.specs.NetGrowths.{AreGrowths}
use Rattle.cert_checker.specs.Spreads.{most_spread, AreSpreads}
use Rattle.cert_checker.proofs.GrowthSizes.{growth-le_wires}

-- the list has how far each of the first n nets with weight is spread
pub record AreSpreadsUpTo (board : Board) (cert : Cert) (n : ℕ) (spreads : List ℕ) : Type 0 where
  pub count : length spreads ≡ n
  pub each : (k : ℕ) → k < n → 0 < weight_of_net board cert k
      → IsSpreadBy cert.grows board cert k (get_or spreads k 0)
  pub small : All (λ s. s ≤ most_spread cert.kind) spreads

module _ (board : Board) (cert : Cert) where
  pub spreads-none : AreSpreadsUpTo board cert 0 []
  spreads-none = record {
    count = refl;
    each = λ k below. absurd (omega (arith, below));
    small = All-nil (λ s. s ≤ most_spread cert.kind);
  }

  pub spreads-more : (n : ℕ) (spreads new : List ℕ) (spread : ℕ) → AreSpreadsUpTo board cert n spreads
      → new ≡ spreads ++ spread ∷ []
      → (0 < weight_of_net board cert n → IsSpreadBy cert.grows board cert n spread)
      → spread ≤ most_spread cert.kind → AreSpreadsUpTo board cert (n + 1) new
  spreads-more n spreads new spread are grown is fine = subst (AreSpreadsUpTo board cert (n + 1)) (sym grown)
      (record {
        count = omega (arith, length_push spreads spread, are.count);
        each = λ k below weighs. ⊎_elim
            (λ (earlier : k < n).
            let same : get_or (spreads ++ spread ∷ []) k 0 ≡ get_or spreads k 0 =
            get_or_append_left spreads (spread ∷ []) 0 k (omega (arith, earlier, are.count)) in
            subst (IsSpreadBy cert.grows board cert k) (sym same) (are.each k earlier weighs))
            (λ (last : n ≤ k).
            let here : k ≡ n = omega (arith, below, last) in
            let same : get_or (spreads ++ spread ∷ []) k 0 ≡ spread =
            get_or_push spreads spread 0 k (omega (arith, here, are.count)) in
            let own : IsSpreadBy cert.grows board cert k spread =
            subst (λ (m : ℕ). IsSpreadBy cert.grows board cert m spread) (sym here)
            (is (subst (λ (m : ℕ). 0 < weight_of_net board cert m) here weighs)) in
            subst (IsSpreadBy cert.grows board cert k) (sym same) own)
            (cases_lt k n);
        small = All-push (λ s. s ≤ most_spread cert.kind) spreads spread are.small fine;
      })

  pub spreads-whole : (n : ℕ) (spreads : List ℕ) → n ≡ length board.nets → AreSpreadsUpTo board cert n spreads
      → AreSpreads board cert spreads
  spreads-whole n spreads all are = record {
    whole = are.count ∙ all;
    each = λ k below. are.each k (omega (arith, below, all));
    small = are.small;
  }

  most-at_least : (kind : CertKind) (spread : ℕ) → spread ≤ most_potential_value → spread ≤ most_spread kind
  most-at_least Share spread fine = omega (arith, fine)
  most-at_least (Hop unit) spread fine = omega (arith, fine)

  growth-small : (kind : CertKind) → HasLengths kind cert.lengths → length board.wires ≤ 65536
      → length cert.lengths ≡ length board.wires → (fpgas : List ℕ) (growth : ℕ)
      → IsGrowth board (length_of cert) fpgas growth → growth ≤ most_spread kind
  growth-small Share has few long fpgas growth is =
      omega (
        arith,
        few,
        growth-le_wires board (length_of cert) most_length
            (λ e below. All-get_or (λ l. l ≤ most_length) cert.lengths e 0 (omega (arith, below, long)) has)
            fpgas growth is,
      )
  growth-small (Hop unit) has few long fpgas growth is =
      omega (
        arith,
        few,
        growth-le_wires board (length_of cert) most_unit (λ e below. omega (
          arith,
          has.1,
          All-get_or (λ l. l ≡ unit) cert.lengths e 0 (omega (arith, below, long)) has.2,
        )) fpgas growth
            is,
      )

  -- one more net by its choice
  pub chosen-more : (n : ℕ) (spreads new : List ℕ) (spread : ℕ) → cert.grows ≡ false
      → AreSpreadsUpTo board cert n spreads → new ≡ spreads ++ spread ∷ []
      → spread ≡ net_spread board cert n → spread ≤ most_potential_value
      → AreSpreadsUpTo board cert (n + 1) new
  chosen-more n spreads new spread chosen are grown is fine =
      spreads-more n spreads new spread are grown (λ weighs. subst (λ g. IsSpreadBy g board cert n spread)
      (sym chosen) is) (most-at_least cert.kind spread fine)

  -- all nets by their growth
  pub spreads-grown : (weights growths : List ℕ) → cert.grows ≡ true → IsCert cert
      → length board.wires ≤ 65536 → length cert.lengths ≡ length board.wires →
      AreNetWeights board cert weights → AreGrowths board (length_of cert) weights growths
      → AreSpreads board cert growths
  spreads-grown weights growths grows is few long weigh are = record {
    whole = are.whole;
    each = λ n below weighs. subst (λ g. IsSpreadBy g board cert n (get_or growths n 0)) (sym grows)
        (are.each n below (omega (arith, weighs, weigh.each n below)));
    small = All-from_get_or (λ s. s ≤ most_spread cert.kind) growths 0 (λ n inside. ⊎_elim
        (λ (weighs : 0 < get_or weights n 0). let own =
        are.each n (omega (arith, inside, are.whole)) weighs in
        growth-small cert.kind is.lengths few long own.rising (get_or growths n 0) own.grows)
        (λ (low : get_or weights n 0 ≤ 0). omega (arith, are.none n (omega (arith, low))))
        (cases_lt 0 (get_or weights n 0)));
  }
