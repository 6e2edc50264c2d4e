-- three nets on a wire, and their trees
use Rattle.std.proofs.Common.{ℕ, zero, suc, List, [], ◌∷◌, refl, inl, arith}
use Rattle.tdm_problem.specs.declared.wire.Wire.{Wire}
use Rattle.tdm_problem.specs.Board.{Board}
use Rattle.tdm_problem.specs.Walk.{Links, Joins}
use Rattle.std.specs.Prelude.{Contains}
use Rattle.tdm_problem.proofs.Walks.{IsMinimalTree-one}
use Rattle.even_legalise.specs.Uniform.{JoinsEachNet}

abbrev pub pair_board : Board
pair_board = record {
  fpgas = 2;
  wires = record { a = 0; b = 1 } ∷ [];
  nets = (0 ∷ 1 ∷ []) ∷ (0 ∷ 1 ∷ []) ∷ (0 ∷ 1 ∷ []) ∷ [];
  groups = (0 ∷ 1 ∷ 2 ∷ []) ∷ [];
}

abbrev pub pair_trees : List (List ℕ)
pair_trees = (0 ∷ []) ∷ (0 ∷ []) ∷ (0 ∷ []) ∷ []

pair_joined : Joins pair_board (Contains (0 ∷ [])) (0 ∷ 1 ∷ [])
pair_joined =
    let wire : Wire = record { a = 0; b = 1 } in
    let links : Links pair_board 0 0 1 = record { wire = wire; is = refl; ends = inl (refl, refl) } in
    (IsMinimalTree-one pair_board 0 0 1 links (λ same. absurd (omega arith))).joins

pub each_joined : JoinsEachNet pair_board pair_trees
each_joined zero inside = pair_joined
each_joined (suc zero) inside = pair_joined
each_joined (suc (suc zero)) inside = pair_joined
each_joined (suc (suc (suc n))) inside = absurd (omega arith)
