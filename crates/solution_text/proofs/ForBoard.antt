-- What is read is for the board.
use Rattle.std.proofs.Common.{◌≡◌, ℕ, zero, suc, ◌<◌, Bool, true, false, ltb, leb, nat_eq, ◌==◌, List, [], ◌∷◌, ◌++◌, length, get_or, All, Result, Ok, Err, refl, ap, ◌∙◌, subst}
use Rattle.std.specs.List.{list_any, IsDistinct}
use Rattle.std.specs.Cmp.{nat_eq_equiv}
use Rattle.std.proofs.lemmas.List.{map-append}
use Rattle.std.proofs.lemmas.List.Elements.{All-nil, All-cons, All-push}
use Rattle.std.proofs.lemmas.List.Sorted.{All-permutation, IsPermutation-map}
use Rattle.std.proofs.lemmas.Map.Keys.{IsDistinct-push, IsDistinct-IsPermutation, apart_from_distinct}
use Rattle.std.proofs.lemmas.Bool.{leb-false, eqb-false}
use Rattle.tdm_problem.specs.declared.solution.WireUse.{WireUse}
use Rattle.tdm_problem.specs.Board.{Board}
use Rattle.tdm_problem.specs.Routing.{Routing, wires_of, IsFor}
use Rattle.tdm_lines.specs.Lines.{Line, lines, line_after}
use Rattle.solution_text.specs.Kinds.{SolutionRefusal}
use Rattle.tdm_lines.specs.Refusals.{◌>>=◌}
use Rattle.solution_text.specs.Reading.{most_bytes, largest_number, next_line, count_said, use_said, by_wire, uses_from, net_from, nets_from, solution_of}
use Rattle.solution_text.proofs.Marking.{list_any-wires_of}
use Rattle.solution_text.proofs.Sorting.{by_wire-moves}

-- what is read in two steps was read in each
pub bind_ok : {A B : Type 0} (read : Result A SolutionRefusal) (next : A → Result B SolutionRefusal) (y : B)
    → (read >>= next) ≡ Ok y → (x : A) × (read ≡ Ok x) × (next x ≡ Ok y)
bind_ok (Ok x) next y e = (x, refl, e)
bind_ok (Err refusal) next y e = absurd (cc)

-- uses of different wires that are there
pub record AreUses (wires : ℕ) (uses : List WireUse) : Type 0 where
  pub there : All (λ u. u.wire < wires) uses
  pub distinct : IsDistinct nat_eq (wires_of uses)

-- ---- a use line

use_ok : (wires : ℕ) (earlier : List WireUse) (line wire ratio : ℕ) (u : WireUse) (far again : Bool)
    → leb wires wire ≡ far → list_any (λ v. v.wire == wire) earlier ≡ again
    → use_said wires earlier line (wire ∷ ratio ∷ []) ≡ Ok u → (u.wire < wires)
    × (list_any (λ v. v.wire == u.wire) earlier ≡ false)
use_ok wires earlier line wire ratio u true again a b e = let h = rw a at e in absurd (cc)
use_ok wires earlier line wire ratio u false true a b e = let h = rw (a, b) at e in absurd (cc)
use_ok wires earlier line wire ratio u false false a b e =
    let h = rw (a, b) at e in
    let said : WireUse = record { wire = wire; ratio = ratio } in
    let same : said ≡ u = cc in
    let P : WireUse → Type 0 = λ v. (v.wire < wires) × (list_any (λ w. w.wire == v.wire) earlier ≡ false) in
    subst P same (leb-false wires wire a, b)

use_said_ok : (wires : ℕ) (earlier : List WireUse) (line : ℕ) (numbers : List ℕ) (u : WireUse)
    → use_said wires earlier line numbers ≡ Ok u → (u.wire < wires)
    × (list_any (λ v. v.wire == u.wire) earlier ≡ false)
use_said_ok wires earlier line [] u e = absurd (cc)
use_said_ok wires earlier line (wire ∷ []) u e = absurd (cc)
use_said_ok wires earlier line (wire ∷ ratio ∷ []) u e =
    use_ok wires earlier line wire ratio u _ _ refl refl e
use_said_ok wires earlier line (wire ∷ ratio ∷ n ∷ numbers) u e = absurd (cc)

-- ---- the uses of a net

-- one more use that is there and new
AreUses-push : (wires : ℕ) (earlier : List WireUse) (u : WireUse) → AreUses wires earlier → u.wire < wires
    → list_any (λ v. v.wire == u.wire) earlier ≡ false → AreUses wires (earlier ++ u ∷ [])
AreUses-push wires earlier u are lt new = record {
  there = All-push (λ v. v.wire < wires) earlier u are.there lt;
  distinct = rw (map-append (λ (v : WireUse). v.wire) earlier (u ∷ []))
      (IsDistinct-push nat_eq_equiv (wires_of earlier) u.wire are.distinct (list_any-wires_of u.wire earlier
      ∙ new));
}

-- the same in another order
AreUses-by_wire : (wires : ℕ) (uses : List WireUse) → AreUses wires uses → AreUses wires (by_wire uses)
AreUses-by_wire wires uses are = record {
  there = All-permutation (λ v. v.wire < wires) uses (by_wire uses) (by_wire-moves uses) are.there;
  distinct = IsDistinct-IsPermutation nat_eq nat_eq_equiv.symm (wires_of uses) (wires_of (by_wire uses))
      (IsPermutation-map (λ (v : WireUse). v.wire) uses (by_wire uses) (by_wire-moves uses)) are.distinct;
}

uses_ok : (wires after : ℕ) (earlier : List WireUse) (count : ℕ) (lines : List Line) (x : List WireUse
    × List Line) → AreUses wires earlier → uses_from wires after earlier count lines ≡ Ok x
    → AreUses wires x.0
uses_ok wires after earlier zero lines x are e =
    let read : List WireUse × List Line = (by_wire earlier, lines) in
    let same : read ≡ x = cc in
    subst (λ (y : List WireUse × List Line). AreUses wires y.0) same (AreUses-by_wire wires earlier are)
uses_ok wires after earlier (suc count) lines x are e =
    let next = bind_ok (next_line after lines) _ x e in
    let said = bind_ok (use_said wires earlier next.0.0.number next.0.0.numbers) _ x next.2 in
    let new = use_said_ok wires earlier next.0.0.number next.0.0.numbers said.0 said.1 in
    uses_ok wires after (earlier ++ said.0 ∷ []) count next.0.1 x
    (AreUses-push wires earlier said.0 are new.0 new.1) said.2

none : (wires : ℕ) → AreUses wires []
unfolding IsDistinct
none wires = record { there = All-nil (λ u. u.wire < wires); distinct = tt }

net_ok : (wires after : ℕ) (lines : List Line) (x : List WireUse × List Line)
    → net_from wires after lines ≡ Ok x → AreUses wires x.0
net_ok wires after lines x e =
    let next = bind_ok (next_line after lines) _ x e in
    let said = bind_ok (count_said next.0.0.number next.0.0.numbers) _ x next.2 in
    uses_ok wires after [] said.0 next.0.1 x (none wires) said.2

-- ---- all nets

pub record AreNets (wires nets : ℕ) (routing : Routing) : Type 0 where
  pub count : length routing ≡ nets
  pub each : All (AreUses wires) routing

nets_ok : (wires after nets : ℕ) (lines : List Line) (routing : Routing) → nets_from wires after nets lines
    ≡ Ok routing → AreNets wires nets routing
nets_ok wires after zero [] routing e = let none : [] ≡ routing = cc in
    subst (λ (r : Routing). AreNets wires 0 r) none (record { count = refl; each = All-nil (AreUses wires) })
nets_ok wires after zero (line ∷ lines) routing e = absurd (cc)
nets_ok wires after (suc nets) lines routing e =
    let net = bind_ok (net_from wires after lines) _ routing e in
    let rest = bind_ok (nets_from wires after nets net.0.1) _ routing net.2 in
    let later = nets_ok wires after nets net.0.1 rest.0 rest.1 in
    let whole : Routing = net.0.0 ∷ rest.0 in
    let same : whole ≡ routing = cc in
    subst (λ (r : Routing). AreNets wires (suc nets) r) same
    (record {
      count = ap (λ (n : ℕ). suc n) later.count;
      each = All-cons (AreUses wires) net.0.0 rest.0 (net_ok wires after lines net.0 net.1)
          later.each;
    })

-- what is read is for the board
read_is_for : (board : Board) (after : ℕ) (lines : List Line) (routing : Routing)
    → nets_from (length board.wires) after (length board.nets) lines ≡ Ok routing → IsFor board routing
read_is_for board after lines routing e =
    let are = nets_ok (length board.wires) after (length board.nets) lines routing e in
    record {
      nets = are.count;
      there = λ k d lt. (are.each k d lt).there;
      distinct = λ k d lt i j w le below. eqb-false _ _ (apart_from_distinct nat_eq
          (wires_of (get_or routing k d)) i j w (are.each k d lt).distinct le below);
    }

solution_is_for_at : (board : Board) (text : List ℕ) (routing : Routing) (long : Bool)
    → ltb most_bytes (length text) ≡ long → solution_of board text ≡ Ok routing → IsFor board routing
solution_is_for_at board text routing true l e = let h = rw l at e in absurd (cc)
solution_is_for_at board text routing false l e = let h = rw l at e in
    read_is_for board (line_after text) (lines largest_number text) routing h

pub solution_is_for : (board : Board) (text : List ℕ) (routing : Routing)
    → solution_of board text ≡ Ok routing → IsFor board routing
solution_is_for board text routing e =
    solution_is_for_at board text routing (ltb most_bytes (length text)) refl e
