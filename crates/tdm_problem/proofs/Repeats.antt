use Rattle.std.proofs.Common.{◌≡◌, ◌≢◌, ℕ, zero, suc, ◌+◌, ◌<◌, ◌≤◌, Bool, true, false, cond, List, [], ◌∷◌, ◌++◌, length, get_or, take, refl, sym, ap, ◌∙◌, ⊎_elim, arith}
use Rattle.std.specs.Prelude.{All, AllPairs, not, ◌||◌, ◌==◌, filter, slice_index, slice_index_or}
use Rattle.std.specs.List.{list_any}
use Rattle.std.proofs.lemmas.List.{append-nil, get_or_default, get_or_read, take_more}
use Rattle.std.proofs.lemmas.List.Elements.{All-cons, All-head, All-tail, All-filter, All-weaker, filter-append, filter_passes}
use Rattle.std.proofs.lemmas.List.Kept.{AllPairs-cons, AllPairs-filter}
use Rattle.std.proofs.lemmas.List.Filters.{length-filter_both}
use Rattle.std.proofs.lemmas.List.Folds.{list_any_none}
use Rattle.std.proofs.lemmas.Map.Views.{any-filter_same}
use Rattle.std.proofs.lemmas.Bool.{eqb-true, eq-eqb, cases_Bool}
use Rattle.std.proofs.Math.Bool.{or-true}
use Rattle.std.proofs.lemmas.Bool.Decides.{eqb_tells}
use Rattle.tdm_problem.specs.Board.{IsRowBelow, without_repeats}
use Rattle.tdm_problem.specs.Firsts.{with_met, IsIndexed}

-- a number other than x passes the test that drops x
other-passes : (x y k : ℕ) → (x == y) ≡ false → (k == y) ≡ true → not (x == k) ≡ true
other-passes x y k differs same =
    let k_is : k ≡ y = eqb-true k y same in
    rw (k_is, differs) refl

-- dropping x from a list keeps what is said of another number
any-filter_other : (x y : ℕ) (ws : List ℕ) → (x == y) ≡ false
    → list_any (λ z. z == y) (filter (λ z. not (x == z)) ws) ≡ list_any (λ z. z == y) ws
any-filter_other x y ws differs =
    any-filter_same (λ z. z == y) (λ z. not (x == z)) true (λ k same. other-passes x y k differs same) ws

-- a number that is there is not kept again, and another is
pub with_met-there : (ws : List ℕ) (y : ℕ) → list_any (λ z. z == y) ws ≡ true → with_met ws y ≡ ws
with_met-there ws y there = ap (λ (b : Bool). cond b ws (ws ++ y ∷ [])) there

pub with_met-absent : (ws : List ℕ) (y : ℕ) → list_any (λ z. z == y) ws ≡ false → with_met ws y ≡ ws ++ y ∷ []
with_met-absent ws y absent = ap (λ (b : Bool). cond b ws (ws ++ y ∷ [])) absent

-- the list without x, with another number behind it
filter-push_same : (x y : ℕ) (ws : List ℕ) → (x == y) ≡ true → filter (λ z. not (x == z)) (ws ++ y ∷ [])
    ≡ filter (λ z. not (x == z)) ws
filter-push_same x y ws same =
    let end : filter (λ z. not (x == z)) (y ∷ []) ≡ [] = ap (λ (b : Bool). cond (not b) (y ∷ []) []) same in
    filter-append (λ z. not (x == z)) ws (y ∷ [])
    ∙ ap (λ (us : List ℕ). filter (λ z. not (x == z)) ws ++ us) end
    ∙ append-nil (filter (λ z. not (x == z)) ws)

filter-push_other : (x y : ℕ) (ws : List ℕ) → (x == y) ≡ false → filter (λ z. not (x == z)) (ws ++ y ∷ [])
    ≡ filter (λ z. not (x == z)) ws ++ y ∷ []
filter-push_other x y ws differs =
    let end : filter (λ z. not (x == z)) (y ∷ []) ≡ y ∷ [] =
    ap (λ (b : Bool). cond (not b) (y ∷ []) []) differs in
    filter-append (λ z. not (x == z)) ws (y ∷ [])
    ∙ ap (λ (us : List ℕ). filter (λ z. not (x == z)) ws ++ us) end

-- dropping x after a number was met is meeting it after x was dropped
met-same : (x y : ℕ) (ws : List ℕ) → (x == y) ≡ true → x ∷ filter (λ z. not (x == z)) (with_met ws y)
    ≡ with_met (x ∷ filter (λ z. not (x == z)) ws) y
met-same x y ws same =
    let drop_x : List ℕ → List ℕ = filter (λ z. not (x == z)) in
    let met : with_met (x ∷ drop_x ws) y ≡ x ∷ drop_x ws =
    with_met-there (x ∷ drop_x ws) y (ap (λ (b : Bool). b || list_any (λ z. z == y) (drop_x ws)) same) in
    let kept : drop_x (with_met ws y) ≡ drop_x ws =
    ⊎_elim
    (λ there. ap drop_x (with_met-there ws y there))
    (λ absent. ap drop_x (with_met-absent ws y absent) ∙ filter-push_same x y ws same)
    (cases_Bool (list_any (λ z. z == y) ws)) in
    ap (λ (us : List ℕ). x ∷ us) kept ∙ sym met

met-other : (x y : ℕ) (ws : List ℕ) → (x == y) ≡ false → x ∷ filter (λ z. not (x == z)) (with_met ws y)
    ≡ with_met (x ∷ filter (λ z. not (x == z)) ws) y
met-other x y ws differs =
    let drop_x : List ℕ → List ℕ = filter (λ z. not (x == z)) in
    let looked : list_any (λ z. z == y) (x ∷ drop_x ws) ≡ list_any (λ z. z == y) ws =
    ap (λ (b : Bool). b || list_any (λ z. z == y) (drop_x ws)) differs ∙ any-filter_other x y ws differs in
    ⊎_elim
    (λ there. ap (λ (us : List ℕ). x ∷ drop_x us) (with_met-there ws y there)
    ∙ sym (with_met-there (x ∷ drop_x ws) y (looked ∙ there)))
    (λ absent. ap (λ (us : List ℕ). x ∷ drop_x us) (with_met-absent ws y absent)
    ∙ ap (λ (us : List ℕ). x ∷ us) (filter-push_other x y ws differs)
    ∙ sym (with_met-absent (x ∷ drop_x ws) y (looked ∙ absent)))
    (cases_Bool (list_any (λ z. z == y) ws))

met-cons : (x y : ℕ) (ws : List ℕ) → x ∷ filter (λ z. not (x == z)) (with_met ws y)
    ≡ with_met (x ∷ filter (λ z. not (x == z)) ws) y
met-cons x y ws =
    ⊎_elim (λ same. met-same x y ws same) (λ differs. met-other x y ws differs) (cases_Bool (x == y))

-- one number more at the end of a list is met after the others
pub without_repeats-push : (xs : List ℕ) (y : ℕ) → without_repeats (xs ++ y ∷ [])
    ≡ with_met (without_repeats xs) y
without_repeats-push [] y = refl
without_repeats-push (x ∷ xs) y = rw (without_repeats-push xs y) (met-cons x y (without_repeats xs))

-- one number more of a list, in a loop over it
pub without_repeats-take_more : (row : List ℕ) (i d : ℕ) → i < length row → without_repeats (take (i + 1) row)
    ≡ with_met (without_repeats (take i row)) (get_or row i d)
without_repeats-take_more row i d there =
    ap without_repeats (take_more row i d there) ∙ without_repeats-push (take i row) (get_or row i d)

-- each number that stays was there
pub All-without_repeats : (P : ℕ → Type 0) (xs : List ℕ) → All P xs → All P (without_repeats xs)
All-without_repeats P [] all = all
All-without_repeats P (x ∷ xs) all =
    All-cons P x (filter (λ y. not (x == y)) (without_repeats xs)) (All-head P x xs all)
    (All-filter (λ y. not (x == y)) P (without_repeats xs) (All-without_repeats P xs (All-tail P x xs all)))

-- a number that the test of x lets through is another
passes-other : (x y : ℕ) → not (x == y) ≡ true → x ≢ y
passes-other x y passes same =
    let equal : (x == y) ≡ true = eq-eqb x y same in
    let wrong : not true ≡ true = rw equal at passes in
    cc

-- no number stays twice
pub AllPairs-without_repeats : (xs : List ℕ) → AllPairs (λ x y. x ≢ y) (without_repeats xs)
AllPairs-without_repeats [] = λ i j d before there. absurd (omega arith)
AllPairs-without_repeats (x ∷ xs) =
    let rest = filter (λ y. not (x == y)) (without_repeats xs) in
    AllPairs-cons (λ (x y : ℕ). x ≢ y) x rest
    (All-weaker (λ y. not (x == y) ≡ true) (λ y. x ≢ y) (λ y passes. passes-other x y passes) rest
    (filter_passes (λ y. not (x == y)) (without_repeats xs)))
    (AllPairs-filter (λ (x y : ℕ). x ≢ y) (λ y. not (x == y)) (without_repeats xs)
    (AllPairs-without_repeats xs))

-- no more numbers stay than there were
pub length-without_repeats : (xs : List ℕ) → length (without_repeats xs) ≤ length xs
length-without_repeats [] = omega arith
length-without_repeats (x ∷ xs) =
    omega (
      arith,
      length-without_repeats xs,
      length-filter_both (λ y. not (x == y)) (λ y. not (not (x == y)))
          (λ y. refl) (without_repeats xs),
    )

-- what stays of a list is a row
pub IsRowBelow-without_repeats : (limit : ℕ) (xs : List ℕ) → 0 < length xs → All (λ x. x < limit) xs
    → IsRowBelow limit (without_repeats xs)
IsRowBelow-without_repeats limit [] some below = absurd (omega arith)
IsRowBelow-without_repeats limit (x ∷ xs) some below = record {
  some = omega arith;
  distinct = AllPairs-without_repeats (x ∷ xs);
  below = All-without_repeats (λ y. y < limit) (x ∷ xs) below;
}

-- a number that stands among the kept ones is found
pub among-at : (kept : List ℕ) (x k : ℕ) → k < length kept → slice_index kept k ≡ x
    → list_any (λ z. z == x) kept ≡ true
among-at [] x k there is = absurd (omega arith)
among-at (y ∷ kept) x zero there is = ap (λ (b : Bool). b || list_any (λ z. z == x) kept) (eq-eqb y x is)
among-at (y ∷ kept) x (suc k) there is =
    ap (λ (b : Bool). (y == x) || b) (among-at kept x k (omega arith) is) ∙ or-true (y == x)

-- where the place that is written down for a number has another, or none, the number is not among the kept
-- ones
pub absent-by_place : (places kept : List ℕ) (x : ℕ) → IsIndexed places kept
    → (slice_index places x < length kept → slice_index kept (slice_index places x) ≢ x)
    → list_any (λ z. z == x) kept ≡ false
absent-by_place places kept x indexed misses =
    list_any_none (λ z. z == x) kept
    (λ k d there.
    ⊎_elim
    (λ same.
    let is : slice_index kept k ≡ x = get_or_default kept k 0 d there ∙ same.1 in
    let place : slice_index places x ≡ k = ap (λ (z : ℕ). slice_index places z) (sym is)
    ∙ (indexed k there).0 in
    absurd (misses (omega arith) (ap (λ (j : ℕ). slice_index kept j) place ∙ is)))
    (λ differs. differs.0)
    (eqb_tells (get_or kept k d) x))

-- the look at the place that is written down for a number decides whether it is among the kept ones
pub met_by_place : (places kept : List ℕ) (x place found : ℕ) → IsIndexed places kept → x < length places
    → place ≡ slice_index_or places x place → place < length kept → found ≡ slice_index_or kept place found
    → (found == x) ≡ list_any (λ z. z == x) kept
met_by_place places kept x place found indexed room placed there read =
    let place_is : place ≡ slice_index places x = get_or_read places x place room placed 0 in
    let found_is : found ≡ slice_index kept place = get_or_read kept place found there read 0 in
    ⊎_elim
    (λ same. same.0 ∙ sym (among-at kept x place there (sym found_is ∙ same.1)))
    (λ differs.
    differs.0 ∙ sym (absent-by_place places kept x indexed
    (λ within is. differs.1 (found_is ∙ ap (λ (j : ℕ). slice_index kept j) place_is ∙ is))))
    (eqb_tells found x)

-- a place behind the kept numbers says that the number is not among them
pub absent-by_place_behind : (places kept : List ℕ) (x place : ℕ) → IsIndexed places kept → x < length places
    → place ≡ slice_index_or places x place → length kept ≤ place → false ≡ list_any (λ z. z == x) kept
absent-by_place_behind places kept x place indexed room placed behind =
    let place_is : place ≡ slice_index places x = get_or_read places x place room placed 0 in
    sym (absent-by_place places kept x indexed (λ within. absurd (omega arith)))
