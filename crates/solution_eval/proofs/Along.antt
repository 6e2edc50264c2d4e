-- the steps along wires
use Rattle.std.proofs.Common.{◌≡◌, ℕ, ◌+◌, ◌<◌, List, [], ◌∷◌, ◌++◌, Option, Some, length, get_or, take, sym, ap, ◌∙◌, subst, refl, inl, inr, ⊎_elim, arith}
use Rattle.std.specs.Prelude.{Contains, slice_get}
use Rattle.std.specs.List.Sorted.{IsPermutation}
use Rattle.std.proofs.lemmas.List.{map_more}
use Rattle.std.proofs.lemmas.List.Elements.{All-push, All-weaker, Contains-push, Contains-append_left, Contains-push_cases}
use Rattle.std.proofs.lemmas.List.Sorted.{All-permutation, Contains-permutation}
use Rattle.tdm_problem.specs.declared.wire.Wire.{Wire}
use Rattle.tdm_problem.specs.declared.solution.WireUse.{WireUse}
use Rattle.tdm_problem.specs.Board.{Board, IsWireOf}
use Rattle.tdm_problem.specs.Routing.{wires_of}
use Rattle.tdm_problem.specs.Walk.{Links}
use Rattle.solution_eval.specs.declared.flood.Step.{Step}
use Rattle.solution_eval.specs.Steps.{AreSteps}

pub along_none : (board : Board) → AreSteps board [] []
along_none board = record {
  along = λ k d inside. absurd (omega arith);
  whole = λ e a b (k, inside, is) links. absurd (omega arith);
  below = λ k d inside. absurd (omega arith);
}

same_wire : (v w : Wire) (o : Option Wire) → o ≡ Some v → o ≡ Some w → v ≡ w
same_wire v w o first second = cc

-- a step as its two FPGAs say
abbrev step_of : ℕ → ℕ → Step
step_of a b = record { from = a; to = b }

-- both steps along one wire more
along_both : (board : Board) (wires : List ℕ) (steps : List Step) (e : ℕ) (wire : Wire)
    → slice_get board.wires e ≡ Some wire → IsWireOf board.fpgas wire → AreSteps board wires steps
    → AreSteps board (wires ++ e ∷ []) ((steps ++ step_of wire.a wire.b ∷ []) ++ step_of wire.b wire.a ∷ [])
along_both board wires steps e wire is_wire of_board steps_are =
    let there : Links board e wire.a wire.b = record { wire = wire; is = is_wire; ends = inl (refl, refl) } in
    let back : Links board e wire.b wire.a = record { wire = wire; is = is_wire; ends = inr (refl, refl) } in
    record {
      along = All-push (λ (s : Step). (f : ℕ) × Contains (wires ++ e ∷ []) f × Links board f s.from s.to)
          (steps ++ step_of wire.a wire.b ∷ []) (step_of wire.b wire.a)
          (All-push (λ (s : Step). (f : ℕ) × Contains (wires ++ e ∷ []) f × Links board f s.from s.to) steps
          (step_of wire.a wire.b)
          (All-weaker (λ (s : Step). (f : ℕ) × Contains wires f × Links board f s.from s.to)
          (λ (s : Step). (f : ℕ) × Contains (wires ++ e ∷ []) f × Links board f s.from s.to)
          (λ s was. (was.0, Contains-append_left wires (e ∷ []) was.0 was.1, was.2)) steps steps_are.along)
          (e, Contains-push wires e, there))
          (e, Contains-push wires e, back);
      whole = λ f a b listed links. ⊎_elim
          (λ before. Contains-append_left (steps ++ step_of wire.a wire.b ∷ []) (step_of wire.b wire.a ∷ [])
          (step_of a b)
          (Contains-append_left steps (step_of wire.a wire.b ∷ []) (step_of a b)
          (steps_are.whole f a b before links)))
          (λ same.
          let is : links.wire ≡ wire = same_wire links.wire wire (slice_get board.wires e)
          (ap (slice_get board.wires) same ∙ links.is) is_wire in
          ⊎_elim
          (λ forth. subst (λ s. Contains ((steps ++ step_of wire.a wire.b ∷ []) ++ step_of wire.b wire.a ∷ [])
          s)
          (ap (λ x. step_of x wire.b) (ap (λ (w : Wire). w.a) (sym is) ∙ forth.0)
          ∙ ap (λ y. step_of a y) (ap (λ (w : Wire). w.b) (sym is) ∙ forth.1))
          (Contains-append_left (steps ++ step_of wire.a wire.b ∷ []) (step_of wire.b wire.a ∷ [])
          (step_of wire.a wire.b) (Contains-push steps (step_of wire.a wire.b))))
          (λ turned. subst (λ s. Contains ((steps ++ step_of wire.a wire.b ∷ []) ++ step_of wire.b wire.a
          ∷ []) s)
          (ap (λ x. step_of x wire.a) (ap (λ (w : Wire). w.b) (sym is) ∙ turned.1)
          ∙ ap (λ y. step_of a y) (ap (λ (w : Wire). w.a) (sym is) ∙ turned.0))
          (Contains-push (steps ++ step_of wire.a wire.b ∷ []) (step_of wire.b wire.a)))
          links.ends)
          (Contains-push_cases wires e f listed);
      below = All-push (λ (s : Step). s.to < board.fpgas) (steps ++ step_of wire.a wire.b ∷ [])
          (step_of wire.b wire.a)
          (All-push (λ (s : Step). s.to < board.fpgas) steps (step_of wire.a wire.b) steps_are.below
          of_board.b_there) of_board.a_there;
    }

-- the steps along the wire of the use at i more
pub along_next : (board : Board) (uses : List WireUse) (i : ℕ) (d : WireUse) (steps new_steps : List Step)
    (wire : Wire) → i < length uses → slice_get board.wires (get_or uses i d).wire ≡ Some wire
    → IsWireOf board.fpgas wire → new_steps ≡ (steps ++ step_of wire.a wire.b ∷ []) ++ step_of wire.b wire.a
    ∷ [] → AreSteps board (wires_of (take i uses)) steps
    → AreSteps board (wires_of (take (i + 1) uses)) new_steps
along_next board uses i d steps new_steps wire inside is_wire of_board is_steps steps_are =
    subst (λ ws. AreSteps board ws new_steps) (sym (map_more (λ (u : WireUse). u.wire) uses i d inside))
    (subst (λ ss. AreSteps board (wires_of (take i uses) ++ (get_or uses i d).wire ∷ []) ss) (sym is_steps)
    (along_both board (wires_of (take i uses)) steps (get_or uses i d).wire wire is_wire of_board steps_are))

-- the steps in another order
pub along_moved : (board : Board) (wires : List ℕ) (steps new_steps : List Step)
    → IsPermutation steps new_steps → AreSteps board wires steps → AreSteps board wires new_steps
along_moved board wires steps new_steps moved steps_are = record {
  along = All-permutation (λ (s : Step). (e : ℕ) × Contains wires e × Links board e s.from s.to) steps
      new_steps moved steps_are.along;
  whole = λ e a b listed links. Contains-permutation steps new_steps (step_of a b) moved
      (steps_are.whole e a b listed links);
  below = All-permutation (λ (s : Step). s.to < board.fpgas) steps new_steps moved steps_are.below;
}
