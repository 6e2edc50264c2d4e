-- The FPGAs of a path become sources, one after another.
use Rattle.std.proofs.Common.{◌≡◌, ◌≢◌, ◌⊎◌, ℕ, ◌<◌, List, [], ◌∷◌, Some, None, length, refl, sym, ap, ◌∙◌, subst, inl, inr, ⊎_elim, ◌+◌, ◌≤◌, drop, drop-cons, add-one, get_or, set, get_or-set_same, get_or-set_other}
use Rattle.std.specs.Prelude.{slice_set, ◌↔◌, All}
use Rattle.std.proofs.lemmas.List.{length-set, drop_all}
use Rattle.tdm_problem.specs.Board.{Board, IsWireOf}
use Rattle.tdm_problem.specs.Walk.{Links, IsWalk, AnyWire}
use Rattle.shortest_forest.specs.Labels.{Labels, IsSource, StaysUnderWay}
use Rattle.tdm_problem.proofs.Walks.{Links-sym}
use Rattle.shortest_forest.proofs.BaselineLaws.{other-end}
use Rattle.shortest_forest.proofs.HopLaws.{Links-below}
use Rattle.steiner_build.specs.Growth.{IsOn}
use Rattle.steiner_build.specs.Joining.{IsTakenIn}
use Rattle.steiner_build.proofs.GrowthLaws.{same_or_other}

-- an FPGA becomes a source
pub source-new : (old new : Labels) (f : ℕ) → f < length old.labels
    → new.labels ≡ slice_set old.labels f (Some (record { distance = 0; wire = None })) → (x : ℕ)
    → IsSource new x ↔ ((f ≡ x) ⊎ IsSource old x)
source-new old new f below labels x = by (same_or_other f x)
  where
    at : (y : ℕ) → get_or new.labels y None
        ≡ get_or (set old.labels f (Some (record { distance = 0; wire = None }))) y None
    at y = ap (λ ls. get_or ls y None) labels

    by : (f ≡ x) ⊎ (f ≢ x) → IsSource new x ↔ ((f ≡ x) ⊎ IsSource old x)
    by (inl same) = (
      λ h. inl same,
      λ h. subst (IsSource new) same (at f
          ∙ get_or-set_same old.labels f (Some (record { distance = 0; wire = None })) None below),
    )
    by (inr other) = (
      λ h. inr (sym (get_or-set_other old.labels f x (Some (record { distance = 0; wire = None })) None
          (λ same. other (sym same))) ∙ sym (at x) ∙ h),
      λ h. ⊎_elim (λ same. absurd (other same)) (λ there. at x
          ∙ get_or-set_other old.labels f x (Some (record { distance = 0; wire = None })) None
          (λ same. other (sym same)) ∙ there) h,
    )

-- the FPGAs before f on the path from goal are sources, and the rest of the path leads on from f
pub record IsTaking (board : Board) (goal f : ℕ) (path rest : List ℕ) (old now : Labels) : Type 0 where
  pub walk : (end : ℕ) × IsWalk board (AnyWire board) f rest end
  pub gained : (x : ℕ) → IsSource now x ⊎ IsOn board f rest x → IsOn board goal path x ⊎ IsSource old x
  pub kept : (x : ℕ) → IsOn board goal path x ⊎ IsSource old x → IsSource now x ⊎ IsOn board f rest x
  pub under_way : StaysUnderWay old now
  pub goals : now.goals ≡ old.goals
  pub size : length now.labels ≡ length old.labels

pub IsTaking-start : (board : Board) (goal : ℕ) (path : List ℕ) (old : Labels) → (end : ℕ)
    × IsWalk board (AnyWire board) goal path end → IsTaking board goal goal path path old old
IsTaking-start board goal path old walk = record {
  walk = walk;
  gained = λ x h. ⊎_elim (λ k. inr k) (λ k. inl k) h;
  kept = λ x h. ⊎_elim (λ k. inr k) (λ k. inl k) h;
  under_way = λ board arcs bound cap h. h;
  goals = refl;
  size = refl;
}

pub IsTaking-more : (board : Board) (goal f e u : ℕ) (path rest : List ℕ) (old now new : Labels)
    → IsTaking board goal f path (e ∷ rest) old now → Links board e f u
    → f < length now.labels
    → new.labels ≡ slice_set now.labels f (Some (record { distance = 0; wire = None }))
    → new.goals ≡ now.goals → StaysUnderWay now new
    → IsTaking board goal u path rest old new
IsTaking-more board goal f e u path rest old now new taking links below labels goals stays = record {
  walk = (
    taking.walk.0,
    subst (λ (z : ℕ). IsWalk board (AnyWire board) z rest taking.walk.0)
        (other-end board e f taking.walk.1.1.0 u taking.walk.1.1.1 links) taking.walk.1.1.2,
  );
  gained = λ x h. taking.gained x (before x h);
  kept = λ x h. after x (taking.kept x h);
  under_way = λ b arcs bound cap h. stays b arcs bound cap (taking.under_way b arcs bound cap h);
  goals = goals ∙ taking.goals;
  size = ap length labels ∙ length-set now.labels f (Some (record { distance = 0; wire = None }))
      ∙ taking.size;
}
  where
    before : (x : ℕ) → IsSource new x ⊎ IsOn board u rest x → IsSource now x ⊎ IsOn board f (e ∷ rest) x
    before x (inl is) = ⊎_elim (λ same. inr (inl same)) (λ there. inl there)
        ((source-new now new f below labels x).0 is)
    before x (inr on) = inr (inr (u, links, on))

    after : (x : ℕ) → IsSource now x ⊎ IsOn board f (e ∷ rest) x → IsSource new x ⊎ IsOn board u rest x
    after x (inl is) = inl ((source-new now new f below labels x).1 (inr is))
    after x (inr (inl same)) = inl ((source-new now new f below labels x).1 (inl same))
    after x (inr (inr on)) =
        inr (subst (λ (z : ℕ). IsOn board z rest x) (other-end board e f on.0 u on.1 links) on.2)

pub IsTakenIn-taking : (board : Board) (goal f : ℕ) (path : List ℕ) (old now : Labels)
    → IsTaking board goal f path [] old now → IsTakenIn board goal path old now
IsTakenIn-taking board goal f path old now taking x = (
  λ h. taking.gained x (inl h),
  λ h. ⊎_elim (λ is. is) (λ on. absurd on) (taking.kept x h),
)

-- what is left of a path
pub drop-open : (path : List ℕ) (i : ℕ) → i < length path → drop i path ≡ get_or path i 0 ∷ drop (i + 1) path
drop-open path i below = rw (add-one, drop-cons path i 0)

pub drop-all : (path : List ℕ) (i : ℕ) → length path ≤ i → drop i path ≡ []
drop-all path i past = drop_all i path past

-- the ends of wires are FPGAs
pub links-inside : (board : Board) → All (IsWireOf board.fpgas) board.wires → (e a b : ℕ) → Links board e a b
    → a < board.fpgas
links-inside board all e a b links = Links-below board all e b a (Links-sym board e a b links)
