-- The potential that a net chooses is that of its source.
use Rattle.std.proofs.Common.{◌≡◌, ℕ, ◌+◌, ◌-◌, ◌<◌, List, [], length, get_or, sym, ap, ◌∙◌, subst, arith}
use Rattle.std.specs.Prelude.{slice_index}
use Rattle.std.proofs.lemmas.List.{get_or_read}
use Rattle.tdm_problem.specs.Board.{Board}
use Rattle.tdm_problem.specs.Legal.{source_of}
use Rattle.bound_cert.specs.Makers.{IsSourcePotential, AreSourcePotentials, ChooseSources}

-- the choice names a potential, which is that of the net's source
pub record IsChosen (board : Board) (wire_length : ℕ → ℕ) (potentials : List (List ℕ))
    (n choice : ℕ) : Type 0 where
  pub place : ℕ
  pub there : place < length potentials
  pub choice_is : choice ≡ place + 1
  pub potential : IsSourcePotential board wire_length (source_of board n) (get_or potentials place [])

pub chosen : (board : Board) (wire_length : ℕ → ℕ) (potentials : List (List ℕ)) (choices : List ℕ) (n : ℕ)
    → AreSourcePotentials board wire_length potentials → ChooseSources board choices → n < length board.nets
    → IsChosen board wire_length potentials n (slice_index choices n)
chosen board wire_length potentials choices n are choose below =
    let choice = choose.each n below in
    record {
      place = choice.place;
      there = omega (arith, choice.there, are.count);
      choice_is = choice.choice_is;
      potential = subst (λ (source : ℕ). IsSourcePotential board wire_length source
          (get_or potentials choice.place [])) choice.source_is (are.each choice.place choice.there);
    }

-- what is read at the choice, less 1, is that potential
pub row_chosen : (board : Board) (wire_length : ℕ → ℕ) (potentials : List (List ℕ)) (n choice : ℕ)
    (row : List ℕ) → (is : IsChosen board wire_length potentials n choice)
    → row ≡ get_or potentials (choice - 1) row → row ≡ get_or potentials is.place []
row_chosen board wire_length potentials n choice row is read =
    let place : choice - 1 ≡ is.place = omega (arith, is.choice_is) in
    get_or_read potentials (choice - 1) row (omega (arith, is.there, place)) read []
    ∙ ap (λ (p : ℕ). get_or potentials p []) place

pub chosen_read : (board : Board) (wire_length : ℕ → ℕ) (potentials : List (List ℕ)) (n choice : ℕ)
    (row : List ℕ) → IsChosen board wire_length potentials n choice → row ≡ get_or potentials (choice - 1) row
    → IsSourcePotential board wire_length (source_of board n) row
chosen_read board wire_length potentials n choice row is read =
    subst (λ (ps : List ℕ). IsSourcePotential board wire_length (source_of board n) ps)
    (sym (row_chosen board wire_length potentials n choice row is read)) is.potential
