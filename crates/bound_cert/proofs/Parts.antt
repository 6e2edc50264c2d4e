-- What the parts of a certificate that is made from hops keep to.
use Rattle.std.proofs.Common.{◌≡◌, ℕ, ◌≤◌, List, [], length, subst, arith}
use Rattle.std.specs.Prelude.{All, sum_by}
use Rattle.std.proofs.lemmas.List.{get_or_default}
use Rattle.std.proofs.lemmas.List.Sums.{sum_by-le}
use Rattle.std.proofs.lemmas.Nat.{mul-le}
use Rattle.tdm_problem.specs.Board.{Board, IsBoard}
use Rattle.tdm_problem.specs.Limits.{most_fpgas}
use Rattle.bound_cert.specs.Limits.{most_potential_value, most_potential_values}
use Rattle.bound_cert.specs.Certificate.{IsPotential}
use Rattle.bound_cert.specs.Makers.{AreSourcePotentials, ChooseSources}
use Rattle.bound_cert.proofs.SourceLaws.{sources_below}

module _ (board : Board) (wire_length : ℕ → ℕ) (potentials : List (List ℕ))
    (are : AreSourcePotentials board wire_length potentials) where
  -- each potential has a value for each FPGA
  pub potentials_long : All (λ potential. length potential ≡ board.fpgas) potentials
  potentials_long p d below =
      subst (λ (potential : List ℕ). length potential ≡ board.fpgas) (get_or_default potentials p [] d below)
      (are.each p (omega (arith, below, are.count))).count

  -- each choice names a potential
  pub choices_there : (choices : List ℕ) → ChooseSources board choices
      → All (λ c. c ≤ length potentials) choices
  choices_there choices choose n d below =
      let choice = choose.each n (omega (arith, below, choose.count)) in
      omega (arith, get_or_default choices n d 0 below, choice.choice_is, choice.there, are.count)

  module _ (is : IsBoard board) where
    -- each potential has values, none of them too large
    pub potentials_within : (most : ℕ) → most ≤ most_potential_value → All (All (λ v. v ≤ most)) potentials
        → All IsPotential potentials
    potentials_within most limit small p d below = record {
      some = omega (
        arith,
        potentials_long p d below,
        sources_below board is p 0 (omega (arith, below, are.count)),
      );
      values = λ f e there. omega (arith, small p d below f e there);
    }

    -- all potentials have together no more values than they may
    pub few_values : length potentials ≤ most_fpgas → sum_by length potentials ≤ most_potential_values
    few_values few =
        let total = sum_by-le length board.fpgas potentials (λ p d below. omega (
          arith,
          potentials_long p d below,
        )) in
        omega (arith, total, mul-le (length potentials) board.fpgas most_fpgas most_fpgas few is.fpga_limit)
