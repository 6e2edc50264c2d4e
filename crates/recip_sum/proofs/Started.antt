-- What the loop over the counts keeps, which starts a term for each.
use Rattle.std.proofs.Common.{◌≡◌, ℕ, ◌+◌, List, ◌++◌, length, map, take}
use Rattle.recip_sum.specs.declared.long_division.Term.{Term}
use Rattle.recip_sum.specs.LongDivision.{start_term}

-- the terms of the first entries stand, and `rest` are the others
pub record AreStarted (entries rest : List (ℕ × ℕ)) (terms : List Term) (place : ℕ) : Type 0 where
  pub written : map start_term entries ≡ take place terms ++ map start_term rest
  pub left : place + length rest ≡ length terms
