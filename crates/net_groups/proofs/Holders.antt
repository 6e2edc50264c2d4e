-- The groups that hold a net, and sums over them.
use Rattle.std.proofs.Common.{◌≡◌, ◌≢◌, ℕ, zero, suc, ◌+◌, ◌<◌, Bool, true, false, cond, List, [], ◌∷◌, ◌++◌, length, map, refl, sym, ap, ◌∙◌, subst, ⊎_elim, arith, add-zero, zero-add}
use Rattle.std.specs.Prelude.{All, filter, sum_by, slice_index, slice_index_or, ◌==◌, ◌||◌}
use Rattle.std.specs.List.{list_any, range_with_len}
use Rattle.std.proofs.Math.Bool.{or-true, or-false}
use Rattle.std.proofs.lemmas.Bool.{cases_eq, eq-eqb, ne_eqb}
use Rattle.std.proofs.lemmas.List.{same_lists, length-map, get_or-map, get_or_default, append-nil}
use Rattle.std.proofs.lemmas.List.Elements.{All-filter, All-get_or}
use Rattle.std.proofs.lemmas.List.Elements.{filter-append}
use Rattle.std.proofs.lemmas.List.Folds.{list_any_none, list_any-append}
use Rattle.std.proofs.lemmas.List.FromFn.{length-range_with_len, get_or-range_with_len}
use Rattle.std.proofs.lemmas.List.Kept.{IsStrictlyIncreasing-filter}
use Rattle.std.proofs.lemmas.List.Sums.{sum_by-cons, sum_by-append, count_by-le-length, length-filter}
use Rattle.tdm_problem.specs.Board.{Board, IsBoard, IsRowBelow}
use Rattle.tdm_problem.specs.Routing.{Routing}
use Rattle.tdm_problem.specs.Sums.{sum_below}
use Rattle.tdm_problem.specs.Value.{net_sum, group_sum}
use Rattle.tdm_problem.specs.Weights.{net_weight}
use Rattle.tdm_problem.proofs.Exchanges.{sum_by-row}
use Rattle.tdm_problem.proofs.SumsBelow.{sum_below-agree, sum_below-first, sum_below-none}
use Rattle.net_groups.specs.Incidence.{NetGroups, groups_of, IsGroupRow, IsNetGroups, holders_before, IsIncidenceOf, weight_of, sum_before}

-- whether the group holds the net
abbrev pub holds : List ℕ → ℕ → Bool
holds group n = list_any (λ m. m == n) group

range-push : (a n : ℕ) → range_with_len a (suc n) ≡ range_with_len a n ++ (a + n) ∷ []
range-push a zero = ap (λ (x : ℕ). x ∷ []) (sym (add-zero a))
range-push a (suc n) =
    let next : (a + 1) + n ≡ a + suc n = omega arith in
    ap (λ (rest : List ℕ). a ∷ rest) (range-push (a + 1) n
    ∙ ap (λ (x : ℕ). range_with_len (a + 1) n ++ x ∷ []) next)

pushed-if : (b : Bool) (xs : List ℕ) (x : ℕ) → xs ++ cond b (x ∷ []) [] ≡ cond b (xs ++ x ∷ []) xs
pushed-if true xs x = refl
pushed-if false xs x = append-nil xs

-- one more group
pub holders-more : (groups : List (List ℕ)) (g n : ℕ) → holders_before groups (suc g) n
    ≡ cond (holds (slice_index_or groups g []) n) (holders_before groups g n ++ g ∷ [])
    (holders_before groups g n)
holders-more groups g n =
    let p : ℕ → Bool = λ h. holds (slice_index_or groups h []) n in
    let range : range_with_len 0 (suc g) ≡ range_with_len 0 g ++ g ∷ [] =
    range-push 0 g ∙ ap (λ (x : ℕ). range_with_len 0 g ++ x ∷ []) (zero-add g) in
    ap (filter p) range ∙ filter-append p (range_with_len 0 g) (g ∷ [])
    ∙ pushed-if (p g) (filter p (range_with_len 0 g)) g

pub holders-below : (groups : List (List ℕ)) (g n : ℕ) → All (λ h. h < g) (holders_before groups g n)
holders-below groups g n =
    All-filter (λ h. holds (slice_index_or groups h []) n) (λ h. h < g) (range_with_len 0 g)
    (λ k d there.
    let inside : k < g = omega (arith, there, length-range_with_len 0 g) in
    omega (arith, inside, get_or-range_with_len 0 g k d inside))

-- the groups that hold a net are a row of groups
pub holders-row : (groups : List (List ℕ)) (g n : ℕ) → IsGroupRow g (holders_before groups g n)
holders-row groups g n =
    let p : ℕ → Bool = λ h. holds (slice_index_or groups h []) n in
    record {
      below = holders-below groups g n;
      rising =
          IsStrictlyIncreasing-filter p (range_with_len 0 g)
          (λ k there.
          let inside : k + 1 < g = omega (arith, there, length-range_with_len 0 g) in
          omega (
            arith,
            get_or-range_with_len 0 g k 0 (omega (arith, inside)),
            get_or-range_with_len 0 g (k + 1) 0 inside,
          ));
      few = omega (
        arith,
        length-filter p (range_with_len 0 g),
        count_by-le-length p (range_with_len 0 g),
        length-range_with_len 0 g,
      );
    }

sum-if : (b : Bool) (w : ℕ → ℕ) (xs : List ℕ) (x : ℕ) → sum_by w (cond b (xs ++ x ∷ []) xs) ≡ sum_by w xs
    + cond b (w x) 0
sum-if true w xs x = sum_by-append w xs (x ∷ []) ∙ ap (λ (k : ℕ). sum_by w xs + k) (sum_by-cons w x []
    ∙ add-zero (w x))
sum-if false w xs x = sym (add-zero (sum_by w xs))

-- a sum over the groups that hold a net
holders-sum : (w : ℕ → ℕ) (groups : List (List ℕ)) (g n : ℕ) → sum_by w (holders_before groups g n)
    ≡ sum_below g (λ h. cond (holds (slice_index_or groups h []) n) (w h) 0)
holders-sum w groups zero n = refl
holders-sum w groups (suc g) n =
    ap (sum_by w) (holders-more groups g n)
    ∙ sum-if (holds (slice_index_or groups g []) n) w (holders_before groups g n) g
    ∙ ap (λ (k : ℕ). k + cond (holds (slice_index_or groups g []) n) (w g) 0) (holders-sum w groups g n)

either-same : (b : Bool) (x : ℕ) → cond b x x ≡ x
either-same true x = refl
either-same false x = refl

net_weight-sum : (groups : List (List ℕ)) (weights : List ℕ) (n : ℕ)
    → net_weight groups weights n
    ≡ sum_below (length groups) (λ h. cond (holds (slice_index_or groups h []) n) (slice_index weights h) 0)
net_weight-sum [] weights n = refl
net_weight-sum (group ∷ groups) [] n =
    sym (sum_below-none (suc (length groups)) (λ h. cond (holds (slice_index_or (group ∷ groups) h []) n)
    (slice_index [] h) 0)
    (λ h below. either-same (holds (slice_index_or (group ∷ groups) h []) n) 0))
net_weight-sum (group ∷ groups) (weight ∷ weights) n =
    ap (λ (k : ℕ). cond (holds group n) weight 0 + k) (net_weight-sum groups weights n)
    ∙ sym (sum_below-first (length groups) (λ h. cond (holds (slice_index_or (group ∷ groups) h []) n)
    (slice_index (weight ∷ weights) h) 0))

-- the weight of a net by an incidence of the board is that by the board
pub weight_of-board : (board : Board) (incidence : NetGroups) (weights : List ℕ) (n : ℕ)
    → IsIncidenceOf board incidence → n < length board.nets → weight_of incidence weights n
    ≡ net_weight board.groups weights n
weight_of-board board incidence weights n is there =
    ap (sum_by (λ g. slice_index weights g)) (is.each n there)
    ∙ holders-sum (λ g. slice_index weights g) board.groups (length board.groups) n
    ∙ sym (net_weight-sum board.groups weights n)

has-if : (b : Bool) (xs : List ℕ) (g k : ℕ) → g ≢ k → list_any (λ h. h == k) (cond b (xs ++ g ∷ []) xs)
    ≡ list_any (λ h. h == k) xs
has-if true xs g k other =
    list_any-append (λ h. h == k) xs (g ∷ [])
    ∙ ap (λ (b : Bool). list_any (λ h. h == k) xs || (b || false)) (ne_eqb g k other)
    ∙ or-false (list_any (λ h. h == k) xs)
has-if false xs g k other = refl

has-last : (b : Bool) (xs : List ℕ) (g : ℕ) → list_any (λ h. h == g) xs ≡ false
    → list_any (λ h. h == g) (cond b (xs ++ g ∷ []) xs) ≡ b
has-last true xs g none =
    list_any-append (λ h. h == g) xs (g ∷ [])
    ∙ ap (λ (b : Bool). list_any (λ h. h == g) xs || (b || false)) (eq-eqb g g refl)
    ∙ or-true (list_any (λ h. h == g) xs)
has-last false xs g none = none

-- a group is among those that hold a net where it holds the net
pub holders-has : (groups : List (List ℕ)) (g n k : ℕ) → k < g
    → list_any (λ h. h == k) (holders_before groups g n) ≡ holds (slice_index_or groups k []) n
holders-has groups zero n k below = absurd (omega arith)
holders-has groups (suc g) n k below =
    ap (list_any (λ h. h == k)) (holders-more groups g n)
    ∙ ⊎_elim
    (λ (last : g ≡ k).
    subst (λ (j : ℕ). list_any (λ h. h == j) (cond (holds (slice_index_or groups g []) n)
    (holders_before groups g n ++ g ∷ []) (holders_before groups g n))
    ≡ holds (slice_index_or groups j []) n) last
    (has-last (holds (slice_index_or groups g []) n) (holders_before groups g n) g
    (list_any_none (λ h. h == g) (holders_before groups g n)
    (λ i d there. ne_eqb (slice_index_or (holders_before groups g n) i d) g
    (λ (same : slice_index_or (holders_before groups g n) i d ≡ g). omega (
      arith,
      same,
      holders-below groups g n i d there,
    ))))))
    (λ (other : g ≢ k).
    has-if (holds (slice_index_or groups g []) n) (holders_before groups g n) g k other
    ∙ holders-has groups g n k (omega (arith, below, other)))
    (cases_eq g k)

-- the sum of a group by an incidence of the board is that by the board
pub sum_before-board : (board : Board) (incidence : NetGroups) (routing : Routing) (g : ℕ) → IsBoard board
    → IsIncidenceOf board incidence → g < length board.groups
    → sum_before incidence routing (length incidence.of_nets) g
    ≡ group_sum routing (slice_index_or board.groups g [])
sum_before-board board incidence routing g ok is there =
    let row : IsRowBelow (length board.nets) (slice_index_or board.groups g []) =
    All-get_or (IsRowBelow (length board.nets)) board.groups g [] there ok.groups in
    ap (λ (nets : ℕ). sum_before incidence routing nets g) is.nets
    ∙ sum_below-agree (length board.nets)
    (λ n. cond (list_any (λ h. h == g) (groups_of incidence n)) (net_sum routing n) 0)
    (λ n. cond (holds (slice_index_or board.groups g []) n) (net_sum routing n) 0)
    (λ n below. ap (λ (b : Bool). cond b (net_sum routing n) 0)
    (ap (list_any (λ h. h == g)) (is.each n below)
    ∙ holders-has board.groups (length board.groups) n g there))
    ∙ sym (sum_by-row (net_sum routing) (length board.nets) (slice_index_or board.groups g []) row.distinct
    row.below)

pub sums-board : (board : Board) (incidence : NetGroups) (routing : Routing) (sums : List ℕ) → IsBoard board
    → IsIncidenceOf board incidence → length sums ≡ incidence.groups
    → ((g : ℕ) → g < incidence.groups
    → slice_index sums g ≡ sum_before incidence routing (length incidence.of_nets) g)
    → sums ≡ map (group_sum routing) board.groups
sums-board board incidence routing sums ok is count each =
    let long : length sums ≡ length (map (group_sum routing) board.groups) = omega (
      arith,
      count,
      is.groups,
      length-map board.groups (group_sum routing),
    ) in
    same_lists sums (map (group_sum routing) board.groups) long
    (λ k d there.
    let here : k < length board.groups = omega (arith, there, count, is.groups) in
    get_or_default sums k d 0 there
    ∙ each k (omega (arith, there, count))
    ∙ sum_before-board board incidence routing k ok is here
    ∙ sym (get_or-map (group_sum routing) board.groups k [] d here))

-- the incidence that was gathered
pub IsIncidence-gathered : (board : Board) (lists : List (List ℕ)) → IsBoard board
    → length lists ≡ length board.nets
    → ((n : ℕ) → n < length board.nets
    → slice_index_or lists n [] ≡ holders_before board.groups (length board.groups) n)
    → IsNetGroups (record { groups = length board.groups; of_nets = lists })
    × IsIncidenceOf board (record { groups = length board.groups; of_nets = lists })
IsIncidence-gathered board lists ok count each = (
  record {
    net_limit = omega (arith, count, ok.net_limit);
    group_limit = ok.group_limit;
    rows = λ k d there.
        subst (λ (row : List ℕ). IsGroupRow (length board.groups) row)
        (sym (get_or_default lists k d [] there ∙ each k (omega (arith, there, count))))
        (holders-row board.groups (length board.groups) k);
  },
  record { groups = refl; nets = count; each = each },
)
