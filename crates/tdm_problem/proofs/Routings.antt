use Rattle.std.proofs.Common.{◌≡◌, ◌≢◌, ℕ, ◌<◌, List, [], length, sym, ap, ◌∙◌, subst, ⊎_elim, length-set, get_or-set_same, get_or-set_other}
use Rattle.std.specs.Prelude.{slice_index, slice_index_or, slice_set}
use Rattle.std.specs.List.Sorted.{IsStrictlyIncreasing}
use Rattle.std.proofs.lemmas.List.{map-set, set-get_or, get_or-map}
use Rattle.std.proofs.lemmas.List.Elements.{All-set, All-get_or}
use Rattle.std.proofs.lemmas.Bool.{cases_eq}
use Rattle.tdm_problem.specs.declared.solution.WireUse.{WireUse}
use Rattle.tdm_problem.specs.Routing.{Routing, uses_of, wires_of, with_ratio, HasRisingWires}

-- a use with another ratio has the same wire
pub wires_of-set_ratio : (uses : List WireUse) (place ratio : ℕ)
    → wires_of (slice_set uses place (record { wire = slice_index (wires_of uses) place; ratio = ratio }))
    ≡ wires_of uses
wires_of-set_ratio uses place ratio =
    map-set (λ (u : WireUse). u.wire) uses place (record {
      wire = slice_index (wires_of uses) place;
      ratio = ratio;
    })
    ∙ set-get_or (wires_of uses) place 0

-- another ratio changes no number of nets
pub length-with_ratio : (routing : Routing) (n place ratio : ℕ) → length (with_ratio routing n place ratio)
    ≡ length routing
length-with_ratio routing n place ratio = length-set routing n _

-- another ratio changes no other net
pub uses_of-with_ratio_other : (routing : Routing) (n place ratio m : ℕ) → m ≢ n
    → uses_of (with_ratio routing n place ratio) m ≡ uses_of routing m
uses_of-with_ratio_other routing n place ratio m other = get_or-set_other routing n m _ [] other

-- the net itself has the same uses but for that one
pub uses_of-with_ratio_same : (routing : Routing) (n place ratio : ℕ) → n < length routing
    → uses_of (with_ratio routing n place ratio) n ≡ slice_set (uses_of routing n) place
    (record { wire = slice_index (wires_of (uses_of routing n)) place; ratio = ratio })
uses_of-with_ratio_same routing n place ratio there = get_or-set_same routing n _ [] there

-- another ratio changes no wires
pub wires_of-with_ratio : (routing : Routing) (n place ratio m : ℕ) → n < length routing
    → wires_of (uses_of (with_ratio routing n place ratio) m) ≡ wires_of (uses_of routing m)
wires_of-with_ratio routing n place ratio m there =
    ⊎_elim
    (λ same.
    rw same (ap wires_of (uses_of-with_ratio_same routing n place ratio there)
    ∙ wires_of-set_ratio (uses_of routing n) place ratio))
    (λ other. ap wires_of (uses_of-with_ratio_other routing n place ratio m other))
    (cases_eq m n)

-- another ratio keeps the wires rising
pub HasRisingWires-with_ratio : (routing : Routing) (n place ratio : ℕ) → n < length routing
    → HasRisingWires routing → HasRisingWires (with_ratio routing n place ratio)
HasRisingWires-with_ratio routing n place ratio there is =
    let rising : IsStrictlyIncreasing (wires_of (uses_of routing n)) =
    All-get_or (λ uses. IsStrictlyIncreasing (wires_of uses)) routing n [] there is.rising in
    record {
      net_limit = rw (length-with_ratio routing n place ratio) is.net_limit;
      rising =
          All-set (λ uses. IsStrictlyIncreasing (wires_of uses)) routing n _
          (subst (λ (wires : List ℕ). IsStrictlyIncreasing wires)
          (sym (wires_of-set_ratio (uses_of routing n) place ratio)) rising)
          is.rising;
    }

-- the routing after a use was read and written with another ratio
pub with_ratio-read : (routing new : Routing) (row : List WireUse) (n place ratio : ℕ) (d : WireUse)
    → uses_of routing n ≡ row → place < length (uses_of routing n)
    → new ≡ slice_set routing n
    (slice_set (uses_of routing n) place (record { wire = (slice_index_or row place d).wire; ratio = ratio }))
    → new ≡ with_ratio routing n place ratio
with_ratio-read routing new row n place ratio d is there written =
    let wire : (slice_index_or row place d).wire ≡ slice_index (wires_of (uses_of routing n)) place =
    ap (λ (uses : List WireUse). (slice_index_or uses place d).wire) (sym is)
    ∙ sym (get_or-map (λ (u : WireUse). u.wire) (uses_of routing n) place d 0 there) in
    written ∙ ap (λ (w : ℕ). slice_set routing n
    (slice_set (uses_of routing n) place (record { wire = w; ratio = ratio }))) wire
