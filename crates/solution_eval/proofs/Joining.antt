-- where the steps along wires lead, the wires lead
use Rattle.std.proofs.Common.{◌≡◌, ℕ, Bool, List, [], ◌∷◌, get_or, sym, subst}
use Rattle.std.specs.Prelude.{All, Contains, IsTrue, ◌↔◌}
use Rattle.std.proofs.lemmas.List.Elements.{All-contains, Contains-get_or}
use Rattle.tdm_problem.specs.declared.solution.WireUse.{WireUse}
use Rattle.tdm_problem.specs.Board.{Board, IsRowBelow}
use Rattle.tdm_problem.specs.Routing.{Routing, uses_of, wires_of}
use Rattle.tdm_problem.specs.Walk.{Links, IsWalk, Joins}
use Rattle.tdm_problem.specs.Legal.{terminals_of}
use Rattle.tdm_problem.proofs.Walks.{Joins-from_source}
use Rattle.solution_eval.specs.declared.flood.Step.{Step}
use Rattle.solution_eval.specs.Flood.{IsPath, HasPath}
use Rattle.solution_eval.specs.Steps.{AreSteps}
use Rattle.solution_eval.specs.Violations.{IsJoined}

-- a path of steps is a walk along the wires
path_to_walk : (board : Board) (wires : List ℕ) (steps : List Step) → AreSteps board wires steps
    → (a : ℕ) (path : List ℕ) (b : ℕ) → IsPath steps a path b → (es : List ℕ)
    × IsWalk board (Contains wires) a es b
path_to_walk board wires steps steps_are a [] b path = ([], path)
path_to_walk board wires steps steps_are a (x ∷ xs) b path =
    let first : (e : ℕ) × Contains wires e × Links board e a x =
    All-contains (λ (s : Step). (e : ℕ) × Contains wires e × Links board e s.from s.to) steps
    (record { from = a; to = x }) steps_are.along path.0 in
    let rest : (es : List ℕ) × IsWalk board (Contains wires) x es b =
    path_to_walk board wires steps steps_are x xs b path.1 in
    (first.0 ∷ rest.0, (first.1, (x, first.2, rest.1)))

-- a walk along the wires is a path of steps
walk_to_path : (board : Board) (wires : List ℕ) (steps : List Step) → AreSteps board wires steps
    → (a : ℕ) (es : List ℕ) (b : ℕ) → IsWalk board (Contains wires) a es b → HasPath steps a b
walk_to_path board wires steps steps_are a [] b walk = ([], walk)
walk_to_path board wires steps steps_are a (e ∷ es) b walk =
    let rest : HasPath steps walk.1.0 b = walk_to_path board wires steps steps_are walk.1.0 es b walk.1.2 in
    (walk.1.0 ∷ rest.0, (steps_are.whole e a walk.1.0 walk.0 walk.1.1, rest.1))

-- the wires join what the steps lead to from the first
pub joined_by_leads : (r : Bool) (board : Board) (wires : List ℕ) (steps listed : List Step) (fpgas : List ℕ)
    → IsRowBelow board.fpgas fpgas → steps ≡ listed → AreSteps board wires listed
    → (IsTrue r ↔ All (HasPath steps (get_or fpgas 0 0)) fpgas)
    → (IsTrue r ↔ Joins board (Contains wires) fpgas)
joined_by_leads r board wires steps listed fpgas row same steps_listed told =
    let steps_are : AreSteps board wires steps =
    subst (λ ss. AreSteps board wires ss) (sym same) steps_listed in (
      λ t. Joins-from_source board (Contains wires) (get_or fpgas 0 0) fpgas
          (λ b there.
          let leads : HasPath steps (get_or fpgas 0 0) b =
          All-contains (HasPath steps (get_or fpgas 0 0)) fpgas b
          (told.0 t) there in
          path_to_walk board wires steps steps_are (get_or fpgas 0 0) leads.0 b leads.1),
      λ joins. told.1 (λ k d inside.
          let walk : (es : List ℕ) × IsWalk board (Contains wires) (get_or fpgas 0 0) es (get_or fpgas k d) =
          joins (get_or fpgas 0 0) (get_or fpgas k d) (Contains-get_or fpgas 0 0 row.some)
          (Contains-get_or fpgas k d inside) in
          walk_to_path board wires steps steps_are (get_or fpgas 0 0) walk.0 (get_or fpgas k d) walk.1),
    )

-- net n is joined where its uses and its FPGAs are these
pub joined_here : (board : Board) (routing : Routing) (n : ℕ) (uses : List WireUse) (fpgas : List ℕ)
    → uses_of routing n ≡ uses → terminals_of board n ≡ fpgas → Joins board (Contains (wires_of uses)) fpgas
    → IsJoined board routing n
joined_here board routing n uses fpgas is_uses is_fpgas joins =
    subst (λ us. Joins board (Contains (wires_of us)) (terminals_of board n)) (sym is_uses)
    (subst (λ fs. Joins board (Contains (wires_of uses)) fs) (sym is_fpgas) joins)

pub joined_there : (board : Board) (routing : Routing) (n : ℕ) (uses : List WireUse) (fpgas : List ℕ)
    → uses_of routing n ≡ uses → terminals_of board n ≡ fpgas → IsJoined board routing n
    → Joins board (Contains (wires_of uses)) fpgas
joined_there board routing n uses fpgas is_uses is_fpgas joined =
    subst (λ us. Joins board (Contains (wires_of us)) fpgas) is_uses
    (subst (λ fs. Joins board (Contains (wires_of (uses_of routing n))) fs) is_fpgas joined)
