-- The stamps of wires as uses come, one after another.
use Rattle.std.proofs.Common.{◌≡◌, ◌≢◌, ℕ, ◌<◌, ◌≤◌, true, false, nat_eq, ◌==◌, ◌||◌, List, [], ◌∷◌, ◌++◌, length, get_or, set, All, ⊎_elim, refl, sym, ◌∙◌, arith, get_or-set_same, get_or-set_other}
use Rattle.std.specs.List.{list_any, IsDistinct}
use Rattle.std.specs.Cmp.{nat_eq_equiv}
use Rattle.std.proofs.lemmas.List.{map-append, length-set}
use Rattle.std.proofs.lemmas.List.Elements.{All-set, All-weaker}
use Rattle.std.proofs.lemmas.List.Folds.{list_any-append}
use Rattle.std.proofs.lemmas.Map.Keys.{IsDistinct-push}
use Rattle.std.proofs.lemmas.Bool.{ne_eqb, cases_eq}
use Rattle.tdm_problem.specs.declared.solution.WireUse.{WireUse}
use Rattle.tdm_problem.specs.Routing.{wires_of}
use Rattle.solution_text.specs.Steps.{Marks}

-- whether some use has the wire, by the list of the wires
pub list_any-wires_of : (wire : ℕ) (uses : List WireUse) → list_any (nat_eq wire) (wires_of uses)
    ≡ list_any (λ u. u.wire == wire) uses
list_any-wires_of wire [] = refl
list_any-wires_of wire (u ∷ uses) = rw (nat_eq_equiv.symm wire u.wire, list_any-wires_of wire uses) refl

none_distinct : IsDistinct nat_eq []
unfolding IsDistinct
none_distinct = tt

-- before a net's first use no wire bears its stamp
pub marks_none : (stamps : List ℕ) (stamp : ℕ) → All (λ s. s < stamp) stamps → Marks stamps stamp []
marks_none stamps stamp h = record {
  no_later = All-weaker (λ s. s < stamp) (λ s. s ≤ stamp) (λ s l. omega arith) stamps h;
  of_uses = λ wire lt. let below : get_or stamps wire 0 < stamp = h wire 0 lt in
      ne_eqb (get_or stamps wire 0) stamp (λ e. omega arith);
  distinct = none_distinct;
}

module _ (stamps : List ℕ) (stamp : ℕ) (uses : List WireUse) (u : WireUse) (marks : Marks stamps stamp uses)
    (there : u.wire < length stamps) (unused : get_or stamps u.wire 0 ≢ stamp) where
  -- the use's wire is new
  unmarked : list_any (λ v. v.wire == u.wire) uses ≡ false
  unmarked = sym (marks.of_uses u.wire there) ∙ ne_eqb (get_or stamps u.wire 0) stamp unused

  -- a wire other than that of the use
  marked_other : (wire : ℕ) → wire < length stamps → wire ≢ u.wire
      → (get_or (set stamps u.wire stamp) wire 0 == stamp) ≡ list_any (λ v. v.wire == wire) (uses ++ u ∷ [])
  marked_other wire lt ne =
      rw (
        list_any-append (λ v. v.wire == wire) uses (u ∷ []),
        get_or-set_other stamps u.wire wire stamp 0 ne,
        marks.of_uses wire lt,
        ne_eqb u.wire wire (λ e. ne (sym e)),
      )
      (elim (list_any (λ v. v.wire == wire) uses) as (λ b. b ≡ (b || (false || false)))
      [ true ↦ refl | false ↦ refl ])

  -- the wire of the use
  marked_own : (get_or (set stamps u.wire stamp) u.wire 0 == stamp) ≡ list_any (λ v. v.wire == u.wire)
      (uses ++ u ∷ [])
  marked_own =
      rw (
        list_any-append (λ v. v.wire == u.wire) uses (u ∷ []),
        get_or-set_same stamps u.wire stamp 0 there,
        unmarked,
        nat_eq_equiv.refl stamp,
        nat_eq_equiv.refl u.wire,
      ) refl

  -- one more use, whose wire did not bear the stamp, and now does
  pub marks_push : Marks (set stamps u.wire stamp) stamp (uses ++ u ∷ [])
  marks_push = record {
    no_later = All-set (λ s. s ≤ stamp) stamps u.wire stamp (omega arith) marks.no_later;
    of_uses = λ wire lt. ⊎_elim (λ (e : wire ≡ u.wire). rw e marked_own)
        (λ (ne : wire ≡ u.wire → ⊥). marked_other wire (rw length-set at lt) ne) (cases_eq wire u.wire);
    distinct = rw (map-append (λ (v : WireUse). v.wire) uses (u ∷ []))
        (IsDistinct-push nat_eq_equiv (wires_of uses) u.wire marks.distinct (list_any-wires_of u.wire uses
        ∙ unmarked));
  }
